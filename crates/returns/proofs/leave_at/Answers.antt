use mathlib.Core.Path.{◌≡◌, sym, ap, ◌∙◌}
use mathlib.Core.List.{[]}
use Prim.Native.Nat.{◌+◌, ◌-◌, ◌≤◌}
use borrow.Author.Tests.{not-true, not-false}
use native.Mathlib.Omega.{arith}
use lib.ListN.{take, get_or}
use mir.Syntax.{w64}
use mir.Val.{to_z, of_z}
use mir.ValLaws.{to_z-of_z}
use Rattle.definition.specs.Layout.{inflight_count, held_count}
use Rattle.consumers.specs.declared.Sub.{Sub}
use Rattle.consumers.specs.Consumers.{row_sub}
use Rattle.consumers.proofs.View.{inflight-loaded, held-loaded}
use Rattle.state.specs.declared.Head.{Head}
use Rattle.state.specs.State.{with_used}
use Rattle.returns.specs.Returns.{dropped_head}
use Rattle.returns.proofs.Leaving.{seat-base, seat-words, seat-rows, flying-gap, leaves-dropped-by, leaves-gave-by}
use Rattle.returns.proofs.leave_at.Goals as goal

pub overflow_add-s : goal.overflow_add-s
overflow_add-s c =
    let a = c.args in
    let f = c.requires.0 in
    let low = c.requires.1 in
    let w = get_or (take a.before.consumers a.subs.now) a.i [] in
    let b = c.base_of-base.ensures ∙ seat-base a.i a.before a.subs.now a.rows.now f low in
    let s : c.load-s.result ≡ row_sub w = c.load-s.ensures ∙ ap row_sub (seat-words a.i a.before a.subs.now a.rows.now f low) in
    let g : c.dropped-d.result ≡ dropped_head a.before = c.dropped-d.ensures in
    let m : c.load-s.result.inflight ≡ inflight_count w = ap (λ (x : Sub). x.inflight) s ∙ inflight-loaded w in
    let k : c.load-s.result.held ≡ held_count w = ap (λ (x : Sub). x.held) s ∙ held-loaded w in
    let u : c.dropped-d.result.used ≡ a.before.used = ap (λ (x : Head). x.used) g in
    let r = seat-rows a.i a.before a.subs.now a.rows.now f low in
    record { fits = omega (arith, m, k, r, f.used) }

pub forget-requires : goal.forget-requires
forget-requires c =
    let a = c.args in
    let f = c.requires.0 in
    let low = c.requires.1 in
    let w = get_or (take a.before.consumers a.subs.now) a.i [] in
    let b = c.base_of-base.ensures ∙ seat-base a.i a.before a.subs.now a.rows.now f low in
    let s : c.load-s.result ≡ row_sub w = c.load-s.ensures ∙ ap row_sub (seat-words a.i a.before a.subs.now a.rows.now f low) in
    let g : c.dropped-d.result ≡ dropped_head a.before = c.dropped-d.ensures in
    let m : c.load-s.result.inflight ≡ inflight_count w = ap (λ (x : Sub). x.inflight) s ∙ inflight-loaded w in
    let k : c.load-s.result.held ≡ held_count w = ap (λ (x : Sub). x.held) s ∙ held-loaded w in
    let u : c.dropped-d.result.used ≡ a.before.used = ap (λ (x : Head). x.used) g in
    let r = seat-rows a.i a.before a.subs.now a.rows.now f low in
    omega (arith, m, k, r, u)

pub returns-then-not-returning : goal.returns-then-not-returning
returns-then-not-returning c =
    let a = c.args in
    let f = c.requires.0 in
    let low = c.requires.1 in
    let w = get_or (take a.before.consumers a.subs.now) a.i [] in
    let b = c.base_of-base.ensures ∙ seat-base a.i a.before a.subs.now a.rows.now f low in
    let s : c.load-s.result ≡ row_sub w = c.load-s.ensures ∙ ap row_sub (seat-words a.i a.before a.subs.now a.rows.now f low) in
    let g : c.dropped-d.result ≡ dropped_head a.before = c.dropped-d.ensures in
    let m : c.load-s.result.inflight ≡ inflight_count w = ap (λ (x : Sub). x.inflight) s ∙ inflight-loaded w in
    let k : c.load-s.result.held ≡ held_count w = ap (λ (x : Sub). x.held) s ∙ held-loaded w in
    let u : c.dropped-d.result.used ≡ a.before.used = ap (λ (x : Head). x.used) g in
    let r = seat-rows a.i a.before a.subs.now a.rows.now f low in
    let v = c.forget in
    let t = sym c.returning.ensures ∙ not-true _ c.if-not-returning.true-raw in
    let e : v.result ≡ with_used (c.dropped-d.result.used - (c.load-s.result.inflight + c.load-s.result.held)) c.dropped-d.result = v.ensures.value in
    let p : v.result.events ≡ a.before.events = ap (λ (x : Head). x.events) e ∙ ap (λ (x : Head). x.events) g in
    let q : v.result.used ≤ a.before.used = omega (arith, ap (λ (x : Head). x.used) e, u) in
    ((λ id events at. leaves-dropped-by a.i a.before a.subs.now a.rows.now f low a.clock a.last id at _ _ _ _ b s g c.remove.ensures _ _ events t e v.ensures.rows_after), omega (arith, p, q, f.sent))

pub overflow_add-base : goal.overflow_add-base
overflow_add-base c =
    let a = c.args in
    let f = c.requires.0 in
    let low = c.requires.1 in
    let w = get_or (take a.before.consumers a.subs.now) a.i [] in
    let b = c.base_of-base.ensures ∙ seat-base a.i a.before a.subs.now a.rows.now f low in
    let s : c.load-s.result ≡ row_sub w = c.load-s.ensures ∙ ap row_sub (seat-words a.i a.before a.subs.now a.rows.now f low) in
    let g : c.dropped-d.result ≡ dropped_head a.before = c.dropped-d.ensures in
    let m : c.load-s.result.inflight ≡ inflight_count w = ap (λ (x : Sub). x.inflight) s ∙ inflight-loaded w in
    let k : c.load-s.result.held ≡ held_count w = ap (λ (x : Sub). x.held) s ∙ held-loaded w in
    let u : c.dropped-d.result.used ≡ a.before.used = ap (λ (x : Head). x.used) g in
    let r = seat-rows a.i a.before a.subs.now a.rows.now f low in
    record { fits = omega (arith, b, m, k, r, f.used) }

pub forget-g-requires : goal.forget-g-requires
forget-g-requires c =
    let a = c.args in
    let f = c.requires.0 in
    let low = c.requires.1 in
    let w = get_or (take a.before.consumers a.subs.now) a.i [] in
    let b = c.base_of-base.ensures ∙ seat-base a.i a.before a.subs.now a.rows.now f low in
    let s : c.load-s.result ≡ row_sub w = c.load-s.ensures ∙ ap row_sub (seat-words a.i a.before a.subs.now a.rows.now f low) in
    let g : c.dropped-d.result ≡ dropped_head a.before = c.dropped-d.ensures in
    let m : c.load-s.result.inflight ≡ inflight_count w = ap (λ (x : Sub). x.inflight) s ∙ inflight-loaded w in
    let k : c.load-s.result.held ≡ held_count w = ap (λ (x : Sub). x.held) s ∙ held-loaded w in
    let u : c.dropped-d.result.used ≡ a.before.used = ap (λ (x : Head). x.used) g in
    let r = seat-rows a.i a.before a.subs.now a.rows.now f low in
    omega (arith, m, k, r, u)

pub give_back-requires : goal.give_back-requires
give_back-requires c =
    let a = c.args in
    let f = c.requires.0 in
    let low = c.requires.1 in
    let w = get_or (take a.before.consumers a.subs.now) a.i [] in
    let b = c.base_of-base.ensures ∙ seat-base a.i a.before a.subs.now a.rows.now f low in
    let s : c.load-s.result ≡ row_sub w = c.load-s.ensures ∙ ap row_sub (seat-words a.i a.before a.subs.now a.rows.now f low) in
    let g : c.dropped-d.result ≡ dropped_head a.before = c.dropped-d.ensures in
    let m : c.load-s.result.inflight ≡ inflight_count w = ap (λ (x : Sub). x.inflight) s ∙ inflight-loaded w in
    let k : c.load-s.result.held ≡ held_count w = ap (λ (x : Sub). x.held) s ∙ held-loaded w in
    let u : c.dropped-d.result.used ≡ a.before.used = ap (λ (x : Head). x.used) g in
    let r = seat-rows a.i a.before a.subs.now a.rows.now f low in
    let v = c.forget-g in
    (flying-gap a.i a.before a.subs.now a.rows.now f low _ _ _ _ _ _ b s g c.remove.ensures v.ensures.value v.ensures.rows_after, c.requires.2)

pub returns : goal.returns
returns c =
    let a = c.args in
    let f = c.requires.0 in
    let low = c.requires.1 in
    let w = get_or (take a.before.consumers a.subs.now) a.i [] in
    let b = c.base_of-base.ensures ∙ seat-base a.i a.before a.subs.now a.rows.now f low in
    let s : c.load-s.result ≡ row_sub w = c.load-s.ensures ∙ ap row_sub (seat-words a.i a.before a.subs.now a.rows.now f low) in
    let g : c.dropped-d.result ≡ dropped_head a.before = c.dropped-d.ensures in
    let m : c.load-s.result.inflight ≡ inflight_count w = ap (λ (x : Sub). x.inflight) s ∙ inflight-loaded w in
    let k : c.load-s.result.held ≡ held_count w = ap (λ (x : Sub). x.held) s ∙ held-loaded w in
    let u : c.dropped-d.result.used ≡ a.before.used = ap (λ (x : Head). x.used) g in
    let r = seat-rows a.i a.before a.subs.now a.rows.now f low in
    let v = c.forget-g in
    let t = sym c.returning.ensures ∙ not-false _ c.if-not-returning.false-raw in
    let e : v.result ≡ with_used (c.dropped-d.result.used - c.load-s.result.held) c.dropped-d.result = v.ensures.value in
    let z : to_z w64 (of_z w64 a.last) ≡ a.last = to_z-of_z w64 a.last c.ranges.last in
    let o = c.give_back.ensures in
    let p : c.give_back.result.events ≡ a.before.events = ap (λ (x : Head). x.events) o.same.head ∙ ap (λ (x : Head). x.events) e ∙ ap (λ (x : Head). x.events) g in
    let q : c.give_back.result.used ≤ a.before.used = omega (arith, o.same.used, ap (λ (x : Head). x.used) e, u) in
    ((λ id events at. leaves-gave-by a.i a.before a.subs.now a.rows.now f low a.clock a.last id at _ _ _ _ b s g c.remove.ensures _ _ _ _ _ events t e v.ensures.rows_after (rw z at o)), omega (arith, p, q, f.sent))
