-- The rows that refusal 5 asks for are those that a join and an enqueue make. Assumes nothing.
use Prim.Native.Nat.{ℕ, ◌+◌}
use native.Mathlib.Omega.{arith}
use mathlib.Core.Path.{◌≡◌, refl, sym, ◌∙◌, ap}
use mathlib.Core.Bool.{false, not, ◌&&◌}
use mathlib.Core.List.{List, [], ◌∷◌, ◌++◌, map}
use mathlib.Core.Option.{none, some}
use lib.Dec.{ltb, eqb}
use lib.IntN.{pos}
use lib.ListN.{length, length-append}
use Rattle.definition.specs.Base.{whether◌then◌else◌, keep, tally, member}
use Rattle.definition.specs.Types.{Entry, Sub, Dest, with_tpending}
use Rattle.definition.specs.Consumer.{expired, accepts, selects, snapshot, is_browser}
use Rattle.definition.specs.Destination.{due, insert, hold_back, fan_out, fan_out_all, new_sub, add_sub}
use Rattle.definition.specs.Calls.{seqs, flying, rows_of, consumer_rows, held}
use Rattle.definition.specs.Claims.{JoinRows, with_copy, trimmed_for, EnqueueRows}
use Rattle.definition.proofs.Tests.{by-test, if-true, if-false, or-no-left, or-no-right}
use Rattle.definition.proofs.Lists.{keep-count, tally-keep}

-- ---- a join

pub join-rows : JoinRows
unfolding add_sub is_browser
join-rows now p t = by-test p.browser
    (λ c. record {
      sub = new_sub p (some chosen);
      last = ap (λ (u : Dest). u.subs) (if-true _ _ c);
      browses = sym c;
      rows = counted ∙ sym (if-true _ 0 c);
      shows = counted ∙ sym (if-true _ 0 c);
      runs = refl;
    })
    (λ c. record { sub = new_sub p none; last = ap (λ (u : Dest). u.subs) (if-false _ _ c); browses = sym c; rows = sym (if-false _ 0 c); shows = sym (if-false _ 0 c); runs = refl })
  where
    live : List Entry
    live = keep (λ e. not (expired (pos (due now t)) e)) t.pending

    chosen : List Entry
    chosen = keep (λ e. selects e.match_word p.selector) live

    counted : length chosen ≡ tally (λ e. not (expired (pos (due now t)) e) && selects e.match_word p.selector) t.pending
    counted = keep-count (λ e. selects e.match_word p.selector) live ∙ tally-keep (λ e. not (expired (pos (due now t)) e)) (λ e. selects e.match_word p.selector) t.pending

-- ---- an enqueue

-- a new number is one more
insert-more : (e : Entry) (l : List Entry) → member e.seq (seqs l) ≡ false → length (insert e l) ≡ length l + 1
insert-more e [] h = refl
insert-more e (f ∷ l) h = by-test (ltb e.seq f.seq)
    (λ c. rw c (omega arith))
    (λ c. rw (c, or-no-left (eqb e.seq f.seq) (member e.seq (seqs l)) h) (omega (arith, insert-more e l (or-no-right (eqb e.seq f.seq) (member e.seq (seqs l)) h))))

-- a number that neither list has, and one that the two have not after one another
member-left : (x : ℕ) (l m : List Entry) → member x (seqs (l ++ m)) ≡ false → member x (seqs l) ≡ false
member-left x [] m h = refl
member-left x (e ∷ l) m h = rw (or-no-left (eqb x e.seq) (member x (seqs (l ++ m))) h) (member-left x l m (or-no-right (eqb x e.seq) (member x (seqs (l ++ m))) h))

member_right : (x : ℕ) (l m : List Entry) → member x (seqs (l ++ m)) ≡ false → member x (seqs m) ≡ false
member_right x [] m h = h
member_right x (e ∷ l) m h = member_right x l m (or-no-right (eqb x e.seq) (member x (seqs (l ++ m))) h)

held_back : (q : ℕ) (l : List Sub) → consumer_rows (map (hold_back q) l) ≡ consumer_rows l
held_back q [] = refl
held_back q (s ∷ l) = ap (λ m. rows_of s ++ m) (held_back q l)

rows-parts : (s : Sub) → length (rows_of s) ≡ length (flying s) + (length s.tpending + length (snapshot s))
rows-parts s = omega (arith, length-append (flying s) (s.tpending ++ snapshot s), length-append s.tpending (snapshot s))

copied-rows : (e : Entry) (s : Sub) → member e.seq (seqs (rows_of s)) ≡ false → length (rows_of (with_copy e s)) ≡ length (rows_of s) + (whether accepts s e then 1 else 0)
copied-rows e s h = by-test (accepts s e)
    (λ c. rw c (omega (arith, rows-parts s, rows-parts (with_tpending (insert e s.tpending) s), insert-more e s.tpending (member-left e.seq s.tpending (snapshot s) (member_right e.seq (flying s) (s.tpending ++ snapshot s) h)))))
    (λ c. rw c (omega arith))

all-copied : (e : Entry) (l : List Sub) → member e.seq (seqs (consumer_rows l)) ≡ false → length (consumer_rows (map (with_copy e) l)) ≡ length (consumer_rows l) + tally (λ s. accepts s e) l
all-copied e [] h = refl
all-copied e (s ∷ l) h = omega (
  arith,
  length-append (rows_of (with_copy e s)) (consumer_rows (map (with_copy e) l)),
  length-append (rows_of s) (consumer_rows l),
  copied-rows e s (member-left e.seq (rows_of s) (consumer_rows l) h),
  all-copied e l (member_right e.seq (rows_of s) (consumer_rows l) h),
)

trimmed-one : (now limit : ℕ) (e : Entry) (s : Sub) → (fan_out now limit e s).sub ≡ trimmed_for now limit e (with_copy e s)
unfolding fan_out accepts
trimmed-one now limit e s = by-test (accepts s e) (λ c. rw (c, c)) (λ c. rw (c, c))

all-trimmed : (now limit : ℕ) (e : Entry) (l : List Sub) → (fan_out_all now limit e l).subs ≡ map (trimmed_for now limit e) (map (with_copy e) l)
unfolding fan_out_all
all-trimmed now limit e [] = refl
all-trimmed now limit e (s ∷ l) = ap (λ x. x ∷ (fan_out_all now limit e l).subs) (trimmed-one now limit e s) ∙ ap (λ m. trimmed_for now limit e (with_copy e s) ∷ m) (all-trimmed now limit e l)

pub enqueue-rows : EnqueueRows
enqueue-rows now e t h =
    let q = e.seq in
    let p = t.pending in
    let r = held t ++ consumer_rows t.subs in
    record {
      stores = omega (
        arith,
        length-append (insert e p) (held t ++ consumer_rows (map (hold_back q) t.subs)),
        length-append (held t) (consumer_rows (map (hold_back q) t.subs)),
        ap length (held_back q t.subs),
        length-append p r,
        length-append (held t) (consumer_rows t.subs),
        insert-more e p (member-left q p r h),
      );
      copies = all-copied e t.subs (member_right q (held t) (consumer_rows t.subs) (member_right q p r h));
      trims = all-trimmed now t.topic_limit e t.subs;
    }
