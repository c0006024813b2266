-- Interchanges and files that are taken one after the other.
use Rattle.std.specs.Borrow.{Bor}
use Rattle.std.proofs.Common.{◌+◌, ◌<◌, ◌≡◌, ◌∙◌, ◌⊎◌, ◌||◌, ◌++◌, ◌∷◌, [], Bool, List, Option, ap, append-nil, append_assoc, drop, false, get_or, inl, inr, length, map, refl, subst, sym, take, true, ℕ}
use Rattle.std.proofs.lemmas.List.{map-append, take_more}
use Rattle.x12_envelopes.specs.Transmission.{AreSlices}
use Rattle.x12_envelopes.specs.Writing.{texts}
use Rattle.x12_profile.specs.Interchange.{Bytes}
use Rattle.x12_spool.specs.declared.node.Node.{Ghosts}
use Rattle.x12_spool.specs.declared.spool.Waiting.{Waiting}
use Rattle.x12_spool.specs.declared.spool.Word.TheVariants.{Taken}
use Rattle.x12_spool.specs.Deed.{File, Deed, AddsDeeds, Lists, Reads, PassesOver, Removes, file_view}
use Rattle.x12_spool.specs.Turn.{Does, word_for_hub, TakesOne, MayTakeOne, TakesAll, TakesSome, TakesRead, StopsRead, IsToRead, TakesFile, StopsIn, TakesFiles, StopsInFiles, TakesListed, StopsInListed}
use Rattle.x12_spool.proofs.DeedLemmas.{adds_none, adds_on, adds_same, parted}

or_none : (a : Bool) → a ≡ a || false
or_none true = refl
or_none false = refl

or_assoc : (a b c : Bool) → (a || b) || c ≡ a || (b || c)
or_assoc true b c = refl
or_assoc false b c = refl

module _ {N : Type 0} (node : Ghosts N) (name : List ℕ) (b : Bytes) (mid new : N) (one : Bool) (last : List Deed) (did : TakesOne node name b mid new one last) where
  all_more : (bs : List Bytes) (old : N) (any : Bool) (first : List Deed) → TakesAll node name bs old mid any first → TakesAll node name (bs ++ b ∷ []) old new (any || one) (first ++ last)
  all_more [] old any first none =
      (new, one, false, last, [], subst (λ n. TakesOne node name b n new one last) none.0 did, (refl, refl, refl), ap (λ a. a || one) none.1 ∙ or_none one, ap (λ ds. ds ++ last) none.2 ∙ sym (append-nil last))
  all_more (x ∷ bs) old any first more = (
    more.0,
    more.1,
    more.2 || one,
    more.3,
    more.4 ++ last,
    more.5,
    all_more bs more.0 more.2 more.4 more.6,
    ap (λ a. a || one) more.7 ∙ or_assoc more.1 more.2 one,
    ap (λ ds. ds ++ last) more.8 ∙ append_assoc more.3 more.4 last,
  )

module _ {N : Type 0} (node : Ghosts N) where
  files_more : (fs : List File) (f : File) (old mid new : N) (first last : List Deed) → TakesFiles node fs old mid first → TakesFile node f mid new last → TakesFiles node (fs ++ f ∷ []) old new (first ++ last)
  files_more [] f old mid new first last none one =
      (new, last, [], subst (λ n. TakesFile node f n new last) none.0 one, (refl, refl), ap (λ ds. ds ++ last) none.1 ∙ sym (append-nil last))
  files_more (x ∷ fs) f old mid new first last more one =
      let rest = files_more fs f more.0 mid new more.2 last more.4 one in
      (more.0, more.1, more.2 ++ last, more.3, rest, ap (λ ds. ds ++ last) more.5 ∙ append_assoc more.1 more.2 last)

abbrev Sent : Type 0
Sent = Bor (List ℕ)

module _ {N : Type 0} (node : Ghosts N) (name : List ℕ) (vs : List Sent) (i : ℕ) (d : Sent) (within : i < length vs) where
  taken_is : texts (take (i + 1) vs) ≡ texts (take i vs) ++ (get_or vs i d).now ∷ []
  taken_is = ap texts (take_more vs i d within) ∙ map-append (λ (x : Sent). x.now) (take i vs) (get_or vs i d ∷ [])

  all_are : texts vs ≡ texts (take i vs) ++ (get_or vs i d).now ∷ texts (drop (i + 1) vs)
  all_are = ap texts (parted vs i d within) ∙ map-append (λ (x : Sent). x.now) (take i vs) (get_or vs i d ∷ drop (i + 1) vs)

  -- one interchange more was taken
  pub takes_on : (a b c : Option (List Deed)) (old mid new : N) (any one : Bool) → Does a b (TakesAll node name (texts (take i vs)) old mid any) → Does b c (TakesOne node name (get_or vs i d).now mid new one) → Does a c (TakesAll node name (texts (take (i + 1) vs)) old new (any || one))
  takes_on a b c old mid new any one before did = (
    before.0 ++ did.0,
    subst (λ bs. TakesAll node name bs old new (any || one) (before.0 ++ did.0)) (sym taken_is)
        (all_more node name (get_or vs i d).now mid new one did.0 did.1 (texts (take i vs)) old any before.0 before.1),
    adds_on a b c before.0 did.0 before.2 did.2,
  )

  -- it stopped at one
  pub stops_at : (a b c : Option (List Deed)) (old mid new : N) (any : Bool) → Does a b (TakesAll node name (texts (take i vs)) old mid any) → MayTakeOne node (get_or vs i d).now mid new → AddsDeeds b c [] → Does a c (TakesSome node name (texts vs) old new)
  stops_at a b c old mid new any before one undone = (
    before.0,
    record { taken = texts (take i vs); next = (get_or vs i d).now; rest = texts (drop (i + 1) vs); are = all_are; mid = mid; any = any; first = before.1; last = one },
    adds_same a b c before.0 before.2 undone,
  )

module _ {N : Type 0} (node : Ghosts N) (f : File) (bytes : Bytes) (bs : List Bytes) (cut : AreSlices bs bytes) where
  pub stops_some : (a b : Option (List Deed)) (old new : N) → Does a b (TakesSome node f.name bs old new) → Does a b (StopsRead node f bytes old new)
  stops_some a b old new did = (did.0, inr (inl (record { interchanges = bs; cut = cut; took = inl did.1 })), did.2)

  pub stops_all : (a b c : Option (List Deed)) (old new : N) (any : Bool) → Does a b (TakesAll node f.name bs old new any) → AddsDeeds b c [] → Does a c (StopsRead node f bytes old new)
  stops_all a b c old new any did same = (did.0, inr (inl (record { interchanges = bs; cut = cut; took = inr (any, did.1) })), adds_same a b c did.0 did.2 same)

  -- all of a file was done, with what is told of its item
  pub takes_whole : (a b c d : Option (List Deed)) (old new : N) (any : Bool) → Does a b (TakesAll node f.name bs old new any) → AddsDeeds b c (word_for_hub f.word any) → AddsDeeds c d (Removes f.name ∷ []) → Does a d (TakesRead node f bytes old new)
  takes_whole a b c d old new any did confirmed removed = (
    did.0 ++ (word_for_hub f.word any ++ Removes f.name ∷ []),
    record { interchanges = bs; cut = cut; any = any; does = did.0; took = did.1; deeds_are = refl },
    adds_on a b d did.0 _ did.2 (adds_on b c d _ _ confirmed removed),
  )

  pub stops_late : (a b c d : Option (List Deed)) (old new : N) (any : Bool) → Does a b (TakesAll node f.name bs old new any) → AddsDeeds b c (word_for_hub f.word any) → AddsDeeds c d [] → Does a d (StopsRead node f bytes old new)
  stops_late a b c d old new any did confirmed same = (
    did.0 ++ word_for_hub f.word any,
    inr (inr (inl (record { interchanges = bs; cut = cut; any = any; does = did.0; took = did.1; deeds_are = refl }))),
    adds_on a b d did.0 _ did.2 (adds_same b c d _ confirmed same),
  )

  pub stops_last : (a d : Option (List Deed)) (old new : N) → Does a d (TakesRead node f bytes old new) → Does a d (StopsRead node f bytes old new)
  stops_last a d old new did = (did.0, inr (inr (inr did.1)), did.2)

module _ {N : Type 0} (node : Ghosts N) (f : File) where
  -- nothing was done
  pub stops_first : (a b : Option (List Deed)) (old : N) → AddsDeeds a b [] → Does a b (StopsIn node f old old)
  stops_first a b old same = ([], inl (refl, refl), same)

  -- a file that was read
  pub takes_content : IsToRead f → (a b c : Option (List Deed)) (bytes : Bytes) (old new : N) → AddsDeeds a b (Reads f.name bytes ∷ []) → Does b c (TakesRead node f bytes old new) → Does a c (TakesFile node f old new)
  takes_content is_to_read a b c bytes old new read did =
      (Reads f.name bytes ∷ did.0, inl (record { is_to_read = is_to_read; bytes = bytes; does = did.0; took = did.1; deeds_are = refl }), adds_on a b c (Reads f.name bytes ∷ []) did.0 read did.2)

  pub stops_content : IsToRead f → (a b c : Option (List Deed)) (bytes : Bytes) (old new : N) → AddsDeeds a b (Reads f.name bytes ∷ []) → Does b c (StopsRead node f bytes old new) → Does a c (StopsIn node f old new)
  stops_content is_to_read a b c bytes old new read did =
      (Reads f.name bytes ∷ did.0, inr (inl (record { is_to_read = is_to_read; bytes = bytes; does = did.0; stopped = did.1; deeds_are = refl })), adds_on a b c (Reads f.name bytes ∷ []) did.0 read did.2)

  -- one that can't be read
  pub passes_over : IsToRead f → (a b : Option (List Deed)) (old : N) → AddsDeeds a b (PassesOver f.name ∷ []) → Does a b (TakesFile node f old old)
  passes_over is_to_read a b old did = (PassesOver f.name ∷ [], inr (inl (record { is_to_read = is_to_read; same = refl; deeds_are = refl })), did)

  -- the word that an item was taken
  pub hears : (a b : Option (List Deed)) (item : ℕ) (old new : N) → f.word ≡ Taken item → node.frees old new item → AddsDeeds a b (Removes f.name ∷ []) → Does a b (TakesFile node f old new)
  hears a b item old new says heard did = (Removes f.name ∷ [], inr (inr (record { item = item; says = says; hears = heard; deeds_are = refl })), did)

  pub stops_unheard : (a : Option (List Deed)) (old new : N) → node.stays old new → Does a a (StopsIn node f old new)
  stops_unheard a old new same = ([], inr (inr (inl (refl, inl same))), adds_none a)

  pub stops_heard : (a b : Option (List Deed)) (item : ℕ) (old new : N) → f.word ≡ Taken item → node.frees old new item → AddsDeeds a b [] ⊎ AddsDeeds a b (Removes f.name ∷ []) → Does a b (StopsIn node f old new)
  stops_heard a b item old new says heard (inl same) = ([], inr (inr (inl (refl, inr (item, says, heard)))), same)
  stops_heard a b item old new says heard (inr gone) = (Removes f.name ∷ [], inr (inr (inr (record { item = item; says = says; hears = heard; deeds_are = refl }))), gone)

module _ {N : Type 0} (node : Ghosts N) (ws : List Waiting) (i : ℕ) (w : Waiting) (at : get_or ws i w ≡ w) (within : i < length ws) where
  files_taken : map file_view (take (i + 1) ws) ≡ map file_view (take i ws) ++ file_view w ∷ []
  files_taken = ap (map file_view) (take_more ws i w within ∙ ap (λ x. take i ws ++ x ∷ []) at) ∙ map-append file_view (take i ws) (w ∷ [])

  files_are : map file_view ws ≡ map file_view (take i ws) ++ file_view w ∷ map file_view (drop (i + 1) ws)
  files_are = ap (map file_view) (parted ws i w within ∙ ap (λ x. take i ws ++ x ∷ drop (i + 1) ws) at) ∙ map-append file_view (take i ws) (w ∷ drop (i + 1) ws)

  pub files_on : (a b c : Option (List Deed)) (old mid new : N) → Does a b (TakesFiles node (map file_view (take i ws)) old mid) → Does b c (TakesFile node (file_view w) mid new) → Does a c (TakesFiles node (map file_view (take (i + 1) ws)) old new)
  files_on a b c old mid new before one = (
    before.0 ++ one.0,
    subst (λ fs. TakesFiles node fs old new (before.0 ++ one.0)) (sym files_taken) (files_more node _ (file_view w) old mid new before.0 one.0 before.1 one.1),
    adds_on a b c before.0 one.0 before.2 one.2,
  )

  pub files_stop : (a b c : Option (List Deed)) (old mid new : N) → Does a b (TakesFiles node (map file_view (take i ws)) old mid) → Does b c (StopsIn node (file_view w) mid new) → Does a c (StopsInFiles node (map file_view ws) old new)
  files_stop a b c old mid new before one = (
    before.0 ++ one.0,
    record { taken = map file_view (take i ws); next = file_view w; rest = map file_view (drop (i + 1) ws); are = files_are; mid = mid; first = before.0; last = one.0; whole = before.1; part = one.1; deeds_are = refl },
    adds_on a b c before.0 one.0 before.2 one.2,
  )

module _ {N : Type 0} (node : Ghosts N) (files : List File) where
  pub takes_listed : (a b c : Option (List Deed)) (old new : N) → AddsDeeds a b (Lists files ∷ []) → Does b c (TakesFiles node files old new) → Does a c (TakesListed node old new)
  takes_listed a b c old new listed did =
      (Lists files ∷ did.0, record { files = files; does = did.0; took = did.1; deeds_are = refl }, adds_on a b c (Lists files ∷ []) did.0 listed did.2)

  pub stops_listed : (a b c : Option (List Deed)) (old new : N) → AddsDeeds a b (Lists files ∷ []) → Does b c (StopsInFiles node files old new) → Does a c (StopsInListed node old new)
  stops_listed a b c old new listed did =
      (Lists files ∷ did.0, inr (record { files = files; does = did.0; stopped = did.1; deeds_are = refl }), adds_on a b c (Lists files ∷ []) did.0 listed did.2)
