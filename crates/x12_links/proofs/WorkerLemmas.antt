-- One parcel more that a worker took.
use native.Mathlib.Omega.{arith}
use Rattle.std.proofs.Common.{◌≡◌, ◌∙◌, ◌++◌, ◌∷◌, ◌<◌, ◌≢◌, ⊎_elim, [], Err, IfOk, List, Ok, Result, get_or, set, ℕ, ap, append-nil, append_assoc, length, map, refl, subst, sym, true≢false}
use Rattle.std.proofs.Math.Seq.{map-set_same}
use Rattle.std.proofs.lemmas.List.{get_or-map, get_or-set_other, get_or-set_same, length-map, length-set, map-append, nil_from_length}
use Rattle.std.proofs.lemmas.List.Elements.{All-push, Contains-get_or}
use Rattle.std.specs.List.{Contains}
use Rattle.std.specs.Result.{IsErr}
use Rattle.crossbeam_channel.specs.Claims.{view}
use Rattle.std.proofs.lemmas.Bool.{cases_eq}
use Rattle.x12_links.specs.declared.course.Halt.{Halt}
use Rattle.x12_links.specs.declared.inbox.Inlet.{Inlet}
use Rattle.x12_links.specs.declared.worker.Delivery.{Delivery}
use Rattle.x12_links.specs.Link.{IsNewInlet}
use Rattle.x12_links.specs.Worker.{cut_by, made, made_of, senders_of, AreDistinct, AreSameInboxes, AskedParcel, IsChosen, IsServed, IsServing, Serves}

-- a call that ended by a halt
pub cut_where : {X Y : Type 0} → (r : Result X Halt) (t : Result Y Halt) (halt : Halt) → r ≡ Err halt → IsErr t → cut_by r ≡ cut_by t
cut_where r (Ok y) halt is err = absurd (true≢false (sym err))
cut_where r (Err why) halt is err = ap cut_by is

module _ {P : Type 0} where
  made_of_push : (asked : List (AskedParcel P)) (a : AskedParcel P) → made_of (asked ++ a ∷ []) ≡ made_of asked ++ made (Ok a.answer) a.parcel
  made_of_push [] a = append-nil (made (Ok a.answer) a.parcel)
  made_of_push (b ∷ asked) a = ap (λ l. made (Ok b.answer) b.parcel ++ l) (made_of_push asked a) ∙ sym (append_assoc (made (Ok b.answer) b.parcel) (made_of asked) (made (Ok a.answer) a.parcel))

  -- without a halt each parcel was asked for
  none_cut : (answers : P → Delivery → Type 0) (delivered took : List P) → (was : IsChosen answers 0 delivered took) → took ≡ map (λ (a : AskedParcel P). a.parcel) was.asked
  none_cut answers delivered took was = was.all ∙ ap (λ l. map (λ (a : AskedParcel P). a.parcel) was.asked ++ l) (nil_from_length was.cut (omega (arith, was.few))) ∙ append-nil (map (λ (a : AskedParcel P). a.parcel) was.asked)

  -- one parcel more was asked for, or cut off
  more_asked : (answers : P → Delivery → Type 0) (r : Result Delivery Halt) (took took' delivered delivered' : List P) (x : P) → IsChosen answers 0 delivered took → took' ≡ took ++ x ∷ [] → delivered' ≡ delivered ++ made r x → IfOk r (λ answer. answers x answer)
      → IsChosen answers (cut_by r) delivered' took'
  more_asked answers (Ok d) took took' delivered delivered' x was longer more told =
      let a : AskedParcel P = record { parcel = x; answer = d } in record {
        asked = was.asked ++ a ∷ [];
        each = All-push (λ (b : AskedParcel P). answers b.parcel b.answer) was.asked a was.each told;
        are = more ∙ ap (λ l. l ++ made (Ok d) x) was.are ∙ sym (made_of_push was.asked a);
        cut = [];
        few = omega arith;
        all = longer ∙ ap (λ l. l ++ x ∷ []) (none_cut answers delivered took was) ∙ sym (map-append (λ (b : AskedParcel P). b.parcel) was.asked (a ∷ [])) ∙ sym (append-nil (map (λ (b : AskedParcel P). b.parcel) (was.asked ++ a ∷ [])));
      }
  more_asked answers (Err halt) took took' delivered delivered' x was longer more told = record {
    asked = was.asked;
    each = was.each;
    are = more ∙ append-nil delivered ∙ was.are;
    cut = x ∷ [];
    few = omega arith;
    all = longer ∙ ap (λ l. l ++ x ∷ []) (none_cut answers delivered took was);
  }

  pub served_more : (answers : P → Delivery → Type 0) (r : Result Delivery Halt) (took took' delivered delivered' : List P) (x : P) (most : ℕ) → cut_by r ≡ most → IsChosen answers 0 delivered took → took' ≡ took ++ x ∷ [] → delivered' ≡ delivered ++ made r x
      → IfOk r (λ answer. answers x answer) → IsChosen answers most delivered' took'
  served_more answers r took took' delivered delivered' x most is was longer more told = subst (λ n. IsChosen answers n delivered' took') is (more_asked answers r took took' delivered delivered' x was longer more told)

  pub chosen_weaker : (answers : P → Delivery → Type 0) (most : ℕ) (delivered took : List P) → IsChosen answers 0 delivered took → IsChosen answers most delivered took
  chosen_weaker answers most delivered took was = record { asked = was.asked; each = was.each; are = was.are; cut = was.cut; few = omega (arith, was.few); all = was.all }

  -- the sender of an inbox
  sender_at : (inlets : List (Inlet P)) (k : ℕ) (d : Inlet P) → k < length inlets → get_or (senders_of inlets) k 0 ≡ (get_or inlets k d).from
  sender_at inlets k d within = get_or-map (λ (x : Inlet P). x.from) inlets k d 0 within

  is_sender : (inlets : List (Inlet P)) (k : ℕ) (d : Inlet P) → k < length inlets → Contains (senders_of inlets) (get_or inlets k d).from
  is_sender inlets k d within = subst (Contains (senders_of inlets)) (sender_at inlets k d within) (Contains-get_or (senders_of inlets) k 0 (omega (arith, within, length-map inlets (λ (x : Inlet P). x.from))))

  -- the senders of two inboxes differ
  senders_apart : (inlets : List (Inlet P)) (j k : ℕ) (d e : Inlet P) → AreDistinct (senders_of inlets) → j < length inlets → k < length inlets → j ≢ k → (get_or inlets j d).from ≢ (get_or inlets k e).from
  senders_apart inlets j k d e apart here there differ same =
      let long = length-map inlets (λ (x : Inlet P). x.from) in
      differ (apart j k 0 (omega (arith, here, long)) (omega (arith, there, long)) (sender_at inlets j d here ∙ same ∙ sym (sender_at inlets k e there)))

  -- one inlet of many: its senders stay
  pub same_inboxes : (inlets : List (Inlet P)) (n : ℕ) (i j : Inlet P) → j ≡ get_or inlets n j → i.receiver ≡ j.receiver → i.from ≡ j.from → AreSameInboxes inlets (set inlets n i)
  same_inboxes inlets n i j is receivers senders = (
    map-set_same (λ (x : Inlet P). x.receiver) inlets n i j (receivers ∙ ap (λ (x : Inlet P). x.receiver) is),
    map-set_same (λ (x : Inlet P). x.from) inlets n i j (senders ∙ ap (λ (x : Inlet P). x.from) is),
  )

  pub same_further : (xs ys zs : List (Inlet P)) → AreSameInboxes xs ys → AreSameInboxes ys zs → AreSameInboxes xs zs
  same_further xs ys zs first next = (next.0 ∙ first.0, next.1 ∙ first.1)

module _ {P : Type 0} (answered : ℕ → P → Delivery → Type 0) where
  -- an inlet out of which nothing was taken
  pub served_none : (most : ℕ) (delivered : ℕ → List P) (i : Inlet P) → delivered i.from ≡ [] → IsNewInlet i → IsServed answered most delivered i
  served_none most delivered i none new = (
    (new.0, ([], new.1)),
    subst (λ l. IsChosen (answered i.from) most (delivered i.from) l) (sym (ap (λ v. v.took) new.1))
        (record { asked = []; each = λ k d within. absurd (omega (arith, within)); are = none; cut = []; few = omega arith; all = refl }),
  )

  served_so : (most : ℕ) (delivered delivered' : ℕ → List P) (i : Inlet P) → IsServed answered 0 delivered i → delivered' i.from ≡ delivered i.from → IsServed answered most delivered' i
  served_so most delivered delivered' i was same =
      (was.0, subst (λ l. IsChosen (answered i.from) most l (view i.pass).took) (sym same) (chosen_weaker (answered i.from) most (delivered i.from) (view i.pass).took was.1))

  -- and a parcel more may have come out of its inbox
  pub serving_set : (most : ℕ) (delivered delivered' : ℕ → List P) (inlets : List (Inlet P)) (n : ℕ) (i j : Inlet P) → n < length inlets → j ≡ get_or inlets n j → i.receiver ≡ j.receiver → i.from ≡ j.from → IsServing answered 0 delivered inlets
      → (cut : ℕ) → cut ≡ most → IsServed answered cut delivered' i → ((from : ℕ) → from ≢ j.from → delivered' from ≡ delivered from) → IsServing answered most delivered' (set inlets n i)
  serving_set most delivered delivered' inlets n i j here is receivers senders was cut cuts this others =
      let same : senders_of (set inlets n i) ≡ senders_of inlets = (same_inboxes inlets n i j is receivers senders).1 in
      let j_is : (get_or inlets n j).from ≡ j.from = ap (λ (x : Inlet P). x.from) (sym is) in
      record {
        are = λ k d within.
            let there : k < length inlets = omega (arith, within, length-set inlets n i) in
            ⊎_elim
            (λ (at : k ≡ n). subst (IsServed answered most delivered') (sym (ap (λ m. get_or (set inlets n i) m d) at ∙ get_or-set_same inlets n i d here)) (subst (λ c. IsServed answered c delivered' i) cuts this))
            (λ (apart : k ≢ n). subst (IsServed answered most delivered') (sym (get_or-set_other inlets n k i d apart)) (served_so most delivered delivered' (get_or inlets k d) (was.are k d there)
            (others (get_or inlets k d).from (λ e. senders_apart inlets k n d j was.apart there here apart (e ∙ sym j_is)))))
            (cases_eq k n);
        apart = subst AreDistinct (sym same) was.apart;
        only = λ from isnt.
            others from (λ e. isnt (subst (λ xs. Contains xs from) (sym same) (subst (Contains (senders_of inlets)) (j_is ∙ sym e) (is_sender inlets n j here))))
            ∙ was.only from (λ has. isnt (subst (λ xs. Contains xs from) (sym same) has));
      }

  -- what a node does by itself delivers nothing
  pub serving_same : (most : ℕ) (delivered delivered' : ℕ → List P) (inlets : List (Inlet P)) → ((from : ℕ) → delivered' from ≡ delivered from) → IsServing answered 0 delivered inlets → IsServing answered most delivered' inlets
  serving_same most delivered delivered' inlets same was = record {
    are = λ k d within. served_so most delivered delivered' (get_or inlets k d) (was.are k d within) (same (get_or inlets k d).from);
    apart = was.apart;
    only = λ from isnt. same from ∙ was.only from isnt;
  }

  -- where nothing is cut off, at most one parcel is
  pub serves_still : (delivered : ℕ → List P) (old new : List (Inlet P)) → IsServing answered 0 delivered new → AreSameInboxes old new → Serves answered delivered old new
  serves_still delivered old new is same = record { serving = serving_same 1 delivered delivered new (λ from. refl) is; same = same }
