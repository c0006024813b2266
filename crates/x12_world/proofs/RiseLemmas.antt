-- The numbers of a station's submissions rise.
use Rattle.std.specs.Prelude.{◌≡◌, ℕ, ◌<◌, List, [], ◌∷◌, ◌++◌, ◌⊎◌, Option, Some, None, Contains, AllPairs, option_to_list}
use mathlib.Core.Path.{sym, subst, ◌∙◌}
use mathlib.Core.Logic.{inl, inr}
use native.Mathlib.Omega.{arith}
use lib.ListN.{get_or}
use Rattle.std.proofs.lemmas.List.{append-nil}
use Rattle.std.proofs.lemmas.List.Elements.{All-contains_itself}
use Rattle.std.proofs.lemmas.Bool.Decides.{eqb_tells}
use Rattle.x12_profile.specs.Interchange.{Bytes}
use Rattle.x12_profile.specs.Profile.{Profile}
use Rattle.x12_profile.specs.Laws.{Laws}
use Rattle.x12_station.specs.History.{Item, Submitted, Came, submissions}
use Rattle.x12_core.specs.Packet.{Packet}
use Rattle.x12_world.specs.World.{World, Event}
use Rattle.x12_world.specs.Network.{Network, IsNetwork}
use Rattle.x12_world.specs.Run.{happens, run, new_world}
use Rattle.x12_numbers.proofs.Shelf.{contains_head}
use Rattle.x12_station.proofs.HistoryLemmas.{in_submissions}
use Rattle.x12_world.proofs.HubStateLemmas.{pairs_push}
use Rattle.x12_world.proofs.Traces.{Trace, Grows, Holds, ItemNews, FreshNews}
use Rattle.x12_world.proofs.WorldLemmas.{trace_of, Sound}
use Rattle.x12_world.proofs.RunLemmas.{new_sound, no_item, happens_grows, happens_onward}
use Rattle.x12_station.proofs.ItemLemmas.{submissions-append}

module _ (p : Profile) where
  -- each submission has a greater number than those before it
  abbrev pub NumbersRise : List Item → Type 0
  NumbersRise items = AllPairs (λ x y. p.number x < p.number y) (submissions items)

  abbrev pub AllRise : Trace → Type 0
  AllRise t = (i : ℕ) → NumbersRise (t.items i)

  -- a new submission has a greater number than all that the node wrote before
  fresh_above : (t : Trace) (node last : ℕ) (fresh : Option Bytes) (x : Bytes) → FreshNews p t node last fresh → fresh ≡ Some x → t.last node < p.number x
  fresh_above t node last None x written is = absurd cc
  fresh_above t node last (Some f) x written is = let same : f ≡ x = cc in subst (λ z. t.last node < p.number z) same written.1

  -- one item more
  rises_with : (t : Trace) (node last group : ℕ) (fresh : Option Bytes) (packets : List Packet) (new : Option Item) → Holds p t → ItemNews p t node group fresh packets new → FreshNews p t node last fresh → NumbersRise (t.items node) → NumbersRise (t.items node ++ option_to_list new)
  rises_with t node last group fresh packets None holds item written was = subst NumbersRise (sym (append-nil (t.items node))) was
  rises_with t node last group fresh packets (Some (Came ed b r)) holds item written was =
      subst (AllPairs (λ (x y : Bytes). p.number x < p.number y)) (sym (submissions-append (t.items node) (Came ed b r ∷ []) ∙ append-nil (submissions (t.items node)))) was
  rises_with t node last group fresh packets (Some (Submitted x)) holds item written was =
      let above = fresh_above t node last fresh x written item.1 in
      subst (AllPairs (λ (x y : Bytes). p.number x < p.number y)) (sym (submissions-append (t.items node) (Submitted x ∷ [])))
      (pairs_push (λ (x y : Bytes). p.number x < p.number y) (submissions (t.items node)) x was
      (λ i d within. below (get_or (submissions (t.items node)) i d) (All-contains_itself (submissions (t.items node)) i d within) above))
    where
      below : (y : Bytes) → Contains (submissions (t.items node)) y → t.last node < p.number x → p.number y < p.number x
      below y h above =
          let ok = holds.sent node y (in_submissions (t.items node) y h) in
          let up = holds.below node y (inl ok.carried) ok.by in
          omega arith

  rises_on : (t t' : Trace) → Grows p t t' → Holds p t → AllRise t → AllRise t'
  rises_on t t' g holds was i = elim (eqb_tells i g.node) [
    | inl same ↦ subst (λ k. NumbersRise (t'.items k)) (sym same.1) (subst NumbersRise (sym g.items_here)
        (rises_with t g.node (t'.last g.node) (t'.group g.node) g.fresh g.packets g.new holds g.news.item g.news.written (was g.node)))
    | inr apart ↦ subst NumbersRise (sym (g.items_else i apart.1)) (was i)
  ]

module _ (p : Profile) (laws : Laws p) (net : Network) (is : IsNetwork p net) where
  rises_after : (events : List Event) (w : World) → Sound p net w → AllRise p (trace_of w) → AllRise p (trace_of (run p events w))
  rises_after [] w was rise = rise
  rises_after (e ∷ es) w was rise = rises_after es (happens p w e) (happens_onward p laws net is.plain w was e).0 (by (happens_grows p laws net is.plain w was e))
    where
      by : (happens p w e ≡ w) ⊎ Grows p (trace_of w) (trace_of (happens p w e)) → AllRise p (trace_of (happens p w e))
      by (inl same) = subst (λ z. AllRise p (trace_of z)) (sym same) rise
      by (inr g) = rises_on p (trace_of w) (trace_of (happens p w e)) g was.holds rise

  -- in every world
  pub all_rise : (events : List Event) → AllRise p (trace_of (run p events (new_world net)))
  all_rise events = rises_after events (new_world net) (new_sound p net is) (λ i. none i)
    where
      nothing : (items : List Item) → ((c : Item) → ¬ (Contains items c)) → NumbersRise p items
      nothing [] no_items = λ i j d below within. absurd (omega arith)
      nothing (c ∷ items) no_items = absurd (no_items c (contains_head c items))

      none : (i : ℕ) → NumbersRise p ((trace_of (new_world net)).items i)
      none i = nothing ((trace_of (new_world net)).items i) (λ c h. no_item p net is i c h)
