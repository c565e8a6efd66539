-- A queue in buffers whose counts fit, by the numbers that are loaded from them; those of sound buffers fit. Assumes nothing.
use mathlib.Core.Path.{◌≡◌, refl, sym, ap, ◌∙◌, subst⁻¹}
use mathlib.Core.Bool.{true}
use mathlib.Core.List.{[], ◌∷◌}
use Prim.Native.Nat.{ℕ, ◌+◌, ◌≤◌}
use native.Mathlib.Omega.{arith}
use borrow.Author.Tests.{leb-true}
use lib.Dec.{leb}
use lib.ListN.{length, take, drop}
use Rattle.definition.specs.Types.{Dest}
use Rattle.definition.specs.Queries.{is_queue}
use Rattle.definition.specs.Words.{at}
use Rattle.definition.specs.Layout.{Buffers, ids_at, audits_at, sub_rows, used_rows, rings_formed, strict, formed, view, sound_buffers}
use Rattle.definition.proofs.Tests.{and_left, and_right, and_both}
use Rattle.definition.proofs.Thin.{every-all}
use Rattle.state.specs.declared.Head.{Head}
use Rattle.state.specs.State.{head_of, head_view, loaded}
use Rattle.state.proofs.View.{loaded-view, is-queue}
use Rattle.state.proofs.Fitting.{Long, loaded-used}
use Rattle.fates.specs.Blocks.{held_blocks}
use Rattle.report.specs.Report.{counts_fit, HeldNumbers}

-- two of the tests of buffers that are formed
pub formed-counts : (b : Buffers) → formed b ≡ true → counts_fit b ≡ true
unfolding formed counts_fit
formed-counts b e =
    let h = b.head in
    let f = every-all (leb (at 12 h) 32 ∷ leb (at 13 h) 32 ∷ leb (at 14 h) 8 ∷ leb (used_rows b) 512 ∷ rings_formed (at 14 h) (drop 113 h) ∷ strict b ∷ []) e in
    and_both _ _ f.0 f.1.1.1.0

pub sound-counts : (b : Buffers) → sound_buffers b ≡ true → counts_fit b ≡ true
unfolding sound_buffers
sound-counts b s = formed-counts b (and_left _ _ s)

module _ (b : Buffers) (events : ℕ) (long : Long b events) (f : counts_fit b ≡ true) (d : Head) (l : d ≡ loaded b.head b.subs) where
  consumers-few : at 12 b.head ≤ 32
  unfolding counts_fit
  consumers-few = leb-true _ _ (and_left _ _ f)

  rows_few : used_rows b ≤ 512
  unfolding counts_fit
  rows_few = leb-true _ _ (and_right (leb (at 12 b.head) 32) _ f)

  d-is : d ≡ head_of b.head (used_rows b)
  d-is = l ∙ loaded-used b.head b.subs long.head rows_few

  abbrev u : Head → Dest
  u x = head_view x b.subs b.rows (ids_at (at 13 b.head) (drop 17 b.head)) (audits_at (at 14 b.head) (drop 113 b.head))

  shown : view b ≡ u d
  shown = sym (ap u d-is ∙ loaded-view b.subs b.rows b.head (used_rows b))

  pub kind-is : is_queue (view b).kind ≡ d.queue
  unfolding head_view
  kind-is = ap (λ (t : Dest). is_queue t.kind) shown ∙ is-queue d.queue

  pub queue-numbers : d.queue ≡ true → HeldNumbers d b.subs b.rows
  unfolding head_of
  queue-numbers t = record {
    queue = t;
    consumers = subst⁻¹ (λ (x : Head). x.consumers ≤ length b.subs) d-is (omega (arith, consumers-few, long.subs));
    used = subst⁻¹ (λ (x : Head). sub_rows (take x.consumers b.subs) + (x.reserved + x.waiting) ≡ x.used) d-is refl;
    room = subst⁻¹ (λ (x : Head). x.used ≤ length b.rows) d-is (omega (arith, rows_few, long.rows));
    few = subst⁻¹ (λ (x : Head). x.used ≤ 512) d-is rows_few;
  }

  same-holds : held_blocks (u d) ≡ held_blocks (head_view d b.subs b.rows [] [])
  unfolding head_view
  same-holds = refl

  pub holds-are : held_blocks (view b) ≡ held_blocks (head_view d b.subs b.rows [] [])
  holds-are = ap held_blocks shown ∙ same-holds
