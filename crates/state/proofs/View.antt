-- The destination that a head by value is: of a head that was loaded, the view of the buffers; of one that is stored, the view of what that
-- leaves; and what a change of one number does to it. Assumes nothing.
use mathlib.Core.Path.{◌≡◌, refl, sym, ap, ap₂, ◌∙◌}
use mathlib.Core.Bool.{Bool, true, false, ◌&&◌, and-true}
use mathlib.Core.List.{List, [], ◌∷◌, ◌++◌}
use mathlib.Core.Option.{Option, none, some}
use Prim.Native.Nat.{ℕ, zero, suc, ◌+◌, ◌≤◌}
use native.Mathlib.Omega.{arith}
use borrow.Author.Tests.{le-ltb}
use lib.Dec.{eqb, leb, eqb-suc-zero}
use lib.ListN.{length, take, drop, set, length-drop, length-set}
use lib.Seq.{drop-drop, drop-set-lt, get_or-drop, get_or-set_same, get_or-set_other, set-get_or}
use Rattle.words.proofs.Words.{flag-of-word}
use Rattle.definition.specs.Base.{whether◌then◌else◌, every, empty}
use Rattle.definition.proofs.Tests.{by-if}
use Rattle.definition.proofs.Thin.{every-all}
use Rattle.definition.specs.Types.{Kind, Id, Audit, Dest}
use Rattle.definition.specs.Types as Def
use Rattle.definition.specs.Destination.{idle_mark, touch_idle}
use Rattle.definition.specs.Words.{at, kind_of}
use Rattle.definition.specs.Layout.{Row, each_sub, subs_at, sub_rows, ids_at, audits_at, rings_formed, is_mark, strict, formed, view}
use Rattle.definition.proofs.Lists.{empty-length, empty-map}
use Rattle.definition.specs.Queries.{is_queue}
use Rattle.consumers.proofs.Strict.{mark-byte}
use Rattle.state.specs.declared.Head.{Head}
use Rattle.state.specs.State.{head_of, head_words, head_view, strict_tables, used_of, loaded, stored_head, kind_by, kind_word, with_idle_mark, not_idle, touched}

-- ---- loaded and stored

kind-mark : (b : Bool) → is_mark (kind_word b) ≡ true
kind-mark true = refl
kind-mark false = refl

pub kind-word : (b : Bool) → kind_of (kind_word b) ≡ kind_by b
kind-word true = refl
kind-word false = refl

pub loaded-long : (h : List ℕ) (subs : List Row) → 8347 ≤ length h → loaded h subs ≡ head_of h (used_of h subs)
unfolding loaded
loaded-long h subs l = rw (le-ltb (length h) 8347 l)

-- what is left after the words at the front, with the allowance and the share in their places
abbrev pub settled : Head → List ℕ → List ℕ
settled d h = set (set (drop 17 h) 8328 d.allowance) 8329 d.share

pub stored-long : (d : Head) (h : List ℕ) → 8347 ≤ length h → stored_head d h ≡ head_words d ++ settled d h
unfolding stored_head head_words
stored-long d h l = rw (le-ltb (length h) 8347 l)

pub stored-length : (d : Head) (h : List ℕ) → 8347 ≤ length h → length (stored_head d h) ≡ length h
unfolding head_words
stored-length d h l = rw (stored-long d h l) (omega (arith, length-set (set (drop 17 h) 8328 d.allowance) 8329 d.share, length-set (drop 17 h) 8328 d.allowance, length-drop 17 h))

-- what stands after all the words stays
pub stored_past : (d : Head) (h : List ℕ) → 8347 ≤ length h → drop 8347 (stored_head d h) ≡ drop 8347 h
unfolding head_words
stored_past d h l = rw (stored-long d h l) (drop-set-lt 8330 (set (drop 17 h) 8328 d.allowance) 8329 d.share (omega arith) ∙ drop-set-lt 8330 (drop 17 h) 8328 d.allowance (omega arith) ∙ drop-drop 8330 17 h)

-- with the allowance and the share that were there, so do the producers and audits
pub settled_same : (d : Head) (h : List ℕ) → d.allowance ≡ at 8345 h → d.share ≡ at 8346 h → settled d h ≡ drop 17 h
settled_same d h a b =
    ap (λ (l : List ℕ). set l 8329 d.share) (ap (set (drop 17 h) 8328) (a ∙ sym (get_or-drop 17 h 8328 0)) ∙ set-get_or (drop 17 h) 8328 0)
    ∙ ap (set (drop 17 h) 8329) (b ∙ sym (get_or-drop 17 h 8329 0)) ∙ set-get_or (drop 17 h) 8329 0

module _ (subs rows : List Row) where
  -- the view of the buffers is that of the numbers that are loaded
  pub loaded-view : (h : List ℕ) (used : ℕ)
      → head_view (head_of h used) subs rows (ids_at (at 13 h) (drop 17 h)) (audits_at (at 14 h) (drop 113 h)) ≡ view (record { head = h; subs = subs; rows = rows })
  unfolding head_view head_of view
  loaded-view h used = refl

  -- stored numbers are viewed as they are, with the producers and audits that the head then has
  pub stored-any : (d : Head) (h : List ℕ) → 8347 ≤ length h
      → view (record { head = stored_head d h; subs = subs; rows = rows }) ≡ head_view d subs rows (ids_at d.producers (settled d h)) (audits_at d.audits (drop 96 (settled d h)))
  unfolding head_view head_words view
  stored-any d h l =
      let a : at 8328 (settled d h) ≡ d.allowance = get_or-set_other (set (drop 17 h) 8328 d.allowance) 8329 8328 d.share 0 (λ e. absurd (omega (arith, e))) ∙ get_or-set_same (drop 17 h) 8328 d.allowance 0 (omega (arith, length-drop 17 h)) in
      let b : at 8329 (settled d h) ≡ d.share = get_or-set_same (set (drop 17 h) 8328 d.allowance) 8329 d.share 0 (omega (arith, length-set (drop 17 h) 8328 d.allowance, length-drop 17 h)) in
      rw (stored-long d h l, a, b, kind-word d.queue, flag-of-word d.idle)

  -- with those of the head, where the allowance and the share are those of the head
  pub stored-view : (d : Head) (h : List ℕ) → 8347 ≤ length h → d.allowance ≡ at 8345 h → d.share ≡ at 8346 h
      → view (record { head = stored_head d h; subs = subs; rows = rows }) ≡ head_view d subs rows (ids_at d.producers (drop 17 h)) (audits_at d.audits (drop 113 h))
  stored-view d h l a b = stored-any d h l
      ∙ ap₂ (λ (x y : List ℕ). head_view d subs rows (ids_at d.producers x) (audits_at d.audits y)) (settled_same d h a b) (ap (drop 96) (settled_same d h a b) ∙ drop-drop 96 17 h)

  pub stored-strict : (d : Head) (h : List ℕ) → 8347 ≤ length h → strict (record { head = stored_head d h; subs = subs; rows = rows }) ≡ strict_tables d subs rows
  unfolding head_words strict
  stored-strict d h l = rw (stored-long d h l, kind-mark d.queue, mark-byte d.idle, and-true)

  pub loaded-strict : (h : List ℕ) (used : ℕ) → strict (record { head = h; subs = subs; rows = rows }) ≡ true → strict_tables (head_of h used) subs rows ≡ true
  unfolding head_of strict
  loaded-strict h used s = (every-all (is_mark (at 0 h) ∷ is_mark (at 5 h) ∷ strict_tables (head_of h used) subs rows ∷ []) s).1.1.0

  pub stored-formed : (d : Head) (h : List ℕ) → 8347 ≤ length h
      → formed (record { head = stored_head d h; subs = subs; rows = rows })
      ≡ every (leb d.consumers 32 ∷ leb d.producers 32 ∷ leb d.audits 8 ∷ leb (sub_rows (take d.consumers subs) + (d.reserved + d.waiting)) 512 ∷ rings_formed d.audits (drop 96 (settled d h)) ∷ strict_tables d subs rows ∷ [])
  unfolding head_words formed
  stored-formed d h l = rw (stored-strict d h l, stored-long d h l)

-- ---- one number changed

-- `touch_idle` changes the mark and its clock alone
pub touched-mark : (now : ℕ) (d : Head) → touched now d ≡ with_idle_mark (touched now d).idle (touched now d).idle_since d
unfolding touched
touched-mark now d = by-if (λ (x : Head). x ≡ with_idle_mark x.idle x.idle_since d) (eqb d.waiting 0 && (eqb d.consumers 0 && eqb d.producers 0)) (whether d.idle then d else with_idle_mark true now d) (not_idle d)
    (λ _. by-if (λ (x : Head). x ≡ with_idle_mark x.idle x.idle_since d) d.idle d (with_idle_mark true now d) (λ _. refl) (λ _. refl))
    (λ _. refl)

module _ {A : Type 0} where
  empty-take : (n : ℕ) (l : List A) → n ≤ length l → empty (take n l) ≡ eqb n 0
  empty-take zero l h = refl
  empty-take (suc n) [] h = absurd (omega arith)
  empty-take (suc n) (x ∷ l) h = sym (eqb-suc-zero n)

empty-subs : (k : Kind) (ws rows : List Row) → empty (subs_at k ws rows) ≡ empty ws
unfolding each_sub
empty-subs k [] rows = refl
empty-subs k (w ∷ ws) rows = refl

module _ (subs rows : List Row) (producers : List Id) (audits : List Audit) where
  abbrev viewed : Head → Dest
  viewed d = head_view d subs rows producers audits

  -- `touch_idle` by its tests: whether anything is left, and whether there is a mark
  touch-cases : (now : ℕ) (d : Head) (t b : Bool) → d.idle ≡ b
      → viewed (whether t then (whether b then d else with_idle_mark true now d) else not_idle d)
      ≡ (whether t then Def.with_idle (idle_mark now (whether b then some d.idle_since else none)) (viewed d) else Def.with_idle none (viewed d))
  unfolding head_view
  touch-cases now d true true e = ap (λ (i : Option ℕ). Def.with_idle i (viewed d)) (ap (λ (b : Bool). whether b then some d.idle_since else none) e)
  touch-cases now d true false e = refl
  touch-cases now d false b e = refl

  left : Head → Bool
  left d = empty (viewed d).pending && (empty (viewed d).subs && empty (viewed d).producers)

  left_is : (d : Head) → d.consumers ≤ length subs → sub_rows (take d.consumers subs) + (d.reserved + d.waiting) ≤ length rows → length producers ≡ d.producers
      → left d ≡ (eqb d.waiting 0 && (eqb d.consumers 0 && eqb d.producers 0))
  unfolding left head_view
  left_is d hs hr hp =
      let others = drop d.reserved (drop (sub_rows (take d.consumers subs)) rows) in
      let n : d.waiting ≤ length others = omega (arith, length-drop d.reserved (drop (sub_rows (take d.consumers subs)) rows), length-drop (sub_rows (take d.consumers subs)) rows) in
      rw (empty-map _ (take d.waiting others), empty-take d.waiting others n, empty-subs (kind_by d.queue) (take d.consumers subs) rows, empty-take d.consumers subs hs, empty-length producers, hp)

  -- where the tables are long enough for the counts
  pub touch-view : (now : ℕ) (d : Head) → d.consumers ≤ length subs → sub_rows (take d.consumers subs) + (d.reserved + d.waiting) ≤ length rows → length producers ≡ d.producers
      → viewed (touched now d) ≡ touch_idle now (viewed d)
  unfolding left head_view touched touch_idle
  touch-view now d hs hr hp =
      touch-cases now d (eqb d.waiting 0 && (eqb d.consumers 0 && eqb d.producers 0)) d.idle refl
      ∙ ap (λ (b : Bool). whether b then Def.with_idle (idle_mark now (viewed d).idle) (viewed d) else Def.with_idle none (viewed d)) (sym (left_is d hs hr hp))

pub is-queue : (b : Bool) → is_queue (kind_by b) ≡ b
is-queue true = refl
is-queue false = refl
