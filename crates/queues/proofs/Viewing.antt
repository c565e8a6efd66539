-- A queue in the parts of its table: the consumers' rows, reserved ones, waiting ones, and those not in use. Assumes nothing.
use mathlib.Core.Path.{◌≡◌, sym, ap, ap₂, ◌∙◌}
use mathlib.Core.Bool.{Bool, true, ◌&&◌}
use mathlib.Core.List.{List, [], ◌∷◌, ◌++◌, append_assoc, map}
use mathlib.Core.Option.{none, some}
use Prim.Native.Nat.{ℕ, ◌+◌, ◌-◌, ◌≤◌}
use native.Mathlib.Omega.{arith}
use lib.ListN.{length, take, drop, length-append, length-drop}
use lib.Seq.{take_at, drop_at, drop-drop}
use Rattle.words.specs.Pick.{whether◌then◌else◌}
use Rattle.entry.specs.Entry.{entry_of}
use Rattle.definition.specs.Base.{all}
use Rattle.definition.specs.Types.{Kind, queue, Id, Audit, Dest}
use Rattle.definition.specs.Layout.{Row, held_at, subs_at, sub_rows, entry_strict, subs_strict, tables_strict}
use Rattle.definition.proofs.Tests.{and_left, and_right, and_both}
use Rattle.table.proofs.Lists.{drop-parts}
use Rattle.consumers.proofs.View.{subs-before}
use Rattle.consumers.proofs.Strict.{strict-before}
use Rattle.state.specs.declared.Head.{Head}
use Rattle.state.specs.State.{head_view, strict_tables, kind_by}

abbrev pub parts_view : Head → List Row → List Row → List Row → List Row → List Id → List Audit → Dest
parts_view d ws a b c ps qs = record {
  kind = queue;
  topic_limit = d.topic_limit;
  call_limit = d.call_limit;
  allowance = d.allowance;
  share = d.share;
  calls_used = d.calls_used;
  pending = map entry_of c;
  subs = subs_at queue ws a;
  rr = d.turn;
  producers = ps;
  audits = qs;
  stats = d.stats;
  idle = whether d.idle then some d.idle_since else none;
  reserved = map held_at b;
}

pub view-parts : (d : Head) (subs a b c z : List Row) → d.queue ≡ true → length a ≡ sub_rows (take d.consumers subs) → length b ≡ d.reserved → length c ≡ d.waiting
    → (ps : List Id) (qs : List Audit) → head_view d subs (a ++ (b ++ (c ++ z))) ps qs ≡ parts_view d (take d.consumers subs) a b c ps qs
unfolding head_view
view-parts d subs a b c z e p q r ps qs =
    let ws : List Row = take d.consumers subs in
    let rows : List Row = a ++ (b ++ (c ++ z)) in
    let others : drop (sub_rows ws) rows ≡ b ++ (c ++ z) = drop_at a (b ++ (c ++ z)) (sub_rows ws) p in
    let waits : take d.waiting (drop d.reserved (drop (sub_rows ws) rows)) ≡ c =
    ap (λ (x : List Row). take d.waiting (drop d.reserved x)) others ∙ ap (take d.waiting) (drop_at b (c ++ z) d.reserved q) ∙ take_at c z d.waiting r in
    let held : take d.reserved (drop (sub_rows ws) rows) ≡ b = ap (take d.reserved) others ∙ take_at b (c ++ z) d.reserved q in
    let mine : subs_at (kind_by d.queue) ws rows ≡ subs_at queue ws a =
    ap (λ (k : Kind). subs_at k ws rows) (ap kind_by e) ∙ subs-before queue ws a (b ++ (c ++ z)) (omega (arith, p)) in
    λ j. record {
      kind = kind_by (e j);
      topic_limit = d.topic_limit;
      call_limit = d.call_limit;
      allowance = d.allowance;
      share = d.share;
      calls_used = d.calls_used;
      pending = map entry_of (waits j);
      subs = mine j;
      rr = d.turn;
      producers = ps;
      audits = qs;
      stats = d.stats;
      idle = whether d.idle then some d.idle_since else none;
      reserved = map held_at (held j);
    }

-- and whether the words in use are strict
pub strict-parts : (d : Head) (subs a b c z : List Row) → length a ≡ sub_rows (take d.consumers subs) → length b ≡ d.reserved → length c ≡ d.waiting
    → strict_tables d subs (a ++ (b ++ (c ++ z))) ≡ (subs_strict (take d.consumers subs) a && all entry_strict (b ++ c))
unfolding tables_strict
strict-parts d subs a b c z p q r =
    let ws : List Row = take d.consumers subs in
    let n : ℕ = d.reserved + d.waiting in
    let others : take n (drop (sub_rows ws) (a ++ (b ++ (c ++ z)))) ≡ b ++ c =
    ap (take n) (drop_at a (b ++ (c ++ z)) (sub_rows ws) p ∙ sym (append_assoc b c z)) ∙ take_at (b ++ c) z n (length-append b c ∙ ap₂ (λ (x y : ℕ). x + y) q r) in
    ap₂ ◌&&◌ (strict-before ws a (b ++ (c ++ z)) (omega (arith, p))) (ap (all entry_strict) others)

-- rows that stand before those not in use: how many there are in all, and those past a later place
module _ (u : ℕ) (x rows : List Row) (e : length x ≡ u) (l : u ≤ length rows) where
  pub behind-length : length (x ++ drop u rows) ≡ length rows
  behind-length = simp (length-append, length-drop) (omega arith)

  pub behind-past : (m : ℕ) → u ≤ m → drop m (x ++ drop u rows) ≡ drop m rows
  behind-past m h =
      let n : u + (m - u) ≡ m = omega arith in
      drop-parts u (m - u) m x (drop u rows) e n ∙ drop-drop (m - u) u rows ∙ ap (λ (k : ℕ). drop k rows) n

-- ---- a test of every consumer, or of every row

module _ {A : Type 0} where
  pub all_without : (p : A → Bool) (l : List A) (x : A) (m : List A) → all p (l ++ x ∷ m) ≡ true → all p (l ++ m) ≡ true
  all_without p [] x m h = and_right (p x) (all p m) h
  all_without p (y ∷ l) x m h = and_both (p y) (all p (l ++ m)) (and_left (p y) (all p (l ++ x ∷ m)) h) (all_without p l x m (and_right (p y) (all p (l ++ x ∷ m)) h))
