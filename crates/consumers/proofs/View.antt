-- The consumers that the table and the rows hold: the view in parts, at a place, and after a store. Assumes nothing.
use mathlib.Core.Path.{◌≡◌, refl, sym, ap, ap₂, ◌∙◌}
use mathlib.Core.List.{List, [], ◌∷◌, ◌++◌}
use mathlib.Core.Option.{some}
use Prim.Native.Nat.{ℕ, zero, suc, ◌+◌, ◌-◌, ◌≤◌, ◌<◌}
use native.Mathlib.Nat.{zero-add, suc-add, not-suc-le-zero, le_of_suc-le-suc}
use native.Mathlib.Omega.{arith}
use lib.ListN.{length, take, drop, get_or, set, length-drop, take-append-drop}
use lib.Seq.{length-take-le, take-nil, take_at, drop_at, take-append-le, take-take, drop-drop, split_at, set_at, set_split}
use Rattle.definition.specs.Base.{nth}
use Rattle.definition.specs.Types.{Kind}
use Rattle.definition.specs.Types as Def
use Rattle.definition.specs.Layout.{Row, inflight_count, held_count, sub_at, each_sub, subs_at, sub_rows}
use Rattle.definition.proofs.Stored.{each-sub-length}
use Rattle.consumers.specs.declared.Sub.{Sub}
use Rattle.consumers.specs.Consumers.{row_sub, sub_words, sub_view}
use Rattle.consumers.specs.Seats.{from_in, flying_in, held_in, after_in, sub_in}
use Rattle.consumers.proofs.Words.{round}

-- ---- one consumer

pub sub_at_lem : (k : Kind) (w : Row) (f h : List Row) → sub_at k w f h ≡ sub_view k (row_sub w) f h
unfolding sub_at sub_view row_sub
sub_at_lem k w f h = refl

pub sub-stored : (k : Kind) (s : Sub) (f h : List Row) → sub_at k (sub_words s) f h ≡ sub_view k s f h
sub-stored k s f h = sub_at_lem k (sub_words s) f h ∙ ap (λ (x : Sub). sub_view k x f h) (round s)

pub inflight-stored : (s : Sub) → inflight_count (sub_words s) ≡ s.inflight
unfolding sub_words
inflight-stored s = refl

pub held-stored : (s : Sub) → held_count (sub_words s) ≡ s.held
unfolding sub_words
held-stored s = refl

pub inflight-loaded : (w : Row) → (row_sub w).inflight ≡ inflight_count w
unfolding row_sub
inflight-loaded w = refl

pub held-loaded : (w : Row) → (row_sub w).held ≡ held_count w
unfolding row_sub
held-loaded w = refl

-- ---- how many rows

pub rows_append : (ws vs : List Row) → sub_rows (ws ++ vs) ≡ sub_rows ws + sub_rows vs
unfolding sub_rows
rows_append [] vs = omega arith
rows_append (w ∷ ws) vs = omega (arith, rows_append ws vs)

pub rows_split : (ws : List Row) (i : ℕ) → i < length ws
    → sub_rows ws ≡ sub_rows (take i ws) + (inflight_count (get_or ws i []) + (held_count (get_or ws i []) + sub_rows (drop (suc i) ws)))
unfolding sub_rows
rows_split ws i h = ap sub_rows (split_at ws i [] h) ∙ rows_append (take i ws) (get_or ws i [] ∷ drop (suc i) ws)

pub rows_take : (ws : List Row) (i : ℕ) → sub_rows (take i ws) ≤ sub_rows ws
unfolding sub_rows
rows_take ws zero = omega arith
rows_take [] (suc i) = omega arith
rows_take (w ∷ ws) (suc i) = omega (arith, rows_take ws i)

pub rows_next : (ws : List Row) (i : ℕ) → i < length ws
    → sub_rows (take (suc i) ws) ≡ sub_rows (take i ws) + (inflight_count (get_or ws i []) + held_count (get_or ws i []))
unfolding sub_rows
rows_next [] i h = absurd (not-suc-le-zero h)
rows_next (w ∷ ws) zero h = omega arith
rows_next (w ∷ ws) (suc i) h = omega (arith, rows_next ws i (le_of_suc-le-suc h))

pub rows-set : (ws : List Row) (i : ℕ) (w : Row) → i < length ws
    → sub_rows (set ws i w) ≡ sub_rows (take i ws) + (inflight_count w + (held_count w + sub_rows (drop (suc i) ws)))
unfolding sub_rows
rows-set ws i w h = ap sub_rows (set_split ws i w h) ∙ rows_append (take i ws) (w ∷ drop (suc i) ws)

pub rows-gone : (ws : List Row) (i : ℕ) → i < length ws
    → sub_rows (take i ws ++ drop (suc i) ws) + (inflight_count (get_or ws i []) + held_count (get_or ws i [])) ≡ sub_rows ws
rows-gone ws i h = omega (arith, rows_append (take i ws) (drop (suc i) ws), rows_split ws i h)

-- ---- the consumers in parts, whatever is read of each with its rows

pub drop-three : (a b c : ℕ) (l : List Row) → drop c (drop b (drop a l)) ≡ drop (a + (b + c)) l
drop-three a b c l = drop-drop c b (drop a l) ∙ drop-drop (b + c) a l

pub front-drop : (a b : ℕ) (l : List Row) → drop a (take (a + b) l) ≡ take b (drop a l)
front-drop zero b l = ap (λ (n : ℕ). take n l) (zero-add b)
front-drop (suc a) b [] = rw (suc-add a b) (sym (take-nil b))
front-drop (suc a) b (x ∷ l) = rw (suc-add a b) (front-drop a b l)

module _ {A : Type 0} where
  nth-at : (p : List A) (x : A) (q : List A) → nth (length p) (p ++ x ∷ q) ≡ some x
  nth-at [] x q = refl
  nth-at (y ∷ p) x q = nth-at p x q

  drop_past : (p : List A) (x : A) (q : List A) → drop (suc (length p)) (p ++ x ∷ q) ≡ q
  drop_past [] x q = refl
  drop_past (y ∷ p) x q = drop_past p x q

module _ {A : Type 0} (of : Row → List Row → List Row → A) where
  -- some consumers, then others
  pub each_append : (ws vs rows : List Row) → each_sub of (ws ++ vs) rows ≡ each_sub of ws rows ++ each_sub of vs (drop (sub_rows ws) rows)
  unfolding each_sub sub_rows
  each_append [] vs rows = refl
  each_append (w ∷ ws) vs rows =
      let f : List Row = take (inflight_count w) rows in
      let h : List Row = take (held_count w) (drop (inflight_count w) rows) in
      let r : List Row = drop (held_count w) (drop (inflight_count w) rows) in
      ap (λ (l : List A). of w f h ∷ l)
      (each_append ws vs r ∙ ap (λ (l : List Row). each_sub of ws r ++ each_sub of vs l) (drop-three (inflight_count w) (held_count w) (sub_rows ws) rows))

  -- no row past the consumers' own is looked at
  pub each-front : (ws : List Row) (n : ℕ) (rows : List Row) → sub_rows ws ≤ n → each_sub of ws (take n rows) ≡ each_sub of ws rows
  unfolding each_sub sub_rows
  each-front [] n rows h = refl
  each-front (w ∷ ws) n rows h =
      let a : ℕ = inflight_count w in
      let b : ℕ = held_count w in
      let m : ℕ = n - a - b in
      let e : a + (n - a) ≡ n = omega arith in
      let g : b + m ≡ n - a = omega arith in
      let one : drop a (take n rows) ≡ take (n - a) (drop a rows) = ap (λ (j : ℕ). drop a (take j rows)) (sym e) ∙ front-drop a (n - a) rows in
      let two : drop b (drop a (take n rows)) ≡ take m (drop b (drop a rows)) =
      ap (drop b) (one ∙ ap (λ (j : ℕ). take j (drop a rows)) (sym g)) ∙ front-drop b m (drop a rows) in
      let f : take a (take n rows) ≡ take a rows = take-take a n rows (omega arith) in
      let l : take b (drop a (take n rows)) ≡ take b (drop a rows) = ap (take b) one ∙ take-take b (n - a) (drop a rows) (omega arith) in
      let r : each_sub of ws (drop b (drop a (take n rows))) ≡ each_sub of ws (drop b (drop a rows)) =
      ap (each_sub of ws) two ∙ each-front ws m (drop b (drop a rows)) (omega arith) in
      λ i. of w (f i) (l i) ∷ r i

  pub each-agree : (ws : List Row) (n : ℕ) (x y : List Row) → sub_rows ws ≤ n → take n x ≡ take n y → each_sub of ws x ≡ each_sub of ws y
  each-agree ws n x y h q = sym (each-front ws n x h) ∙ ap (each_sub of ws) q ∙ each-front ws n y h

  pub each-before : (ws a c : List Row) → sub_rows ws ≤ length a → each_sub of ws (a ++ c) ≡ each_sub of ws a
  each-before ws a c h = each-agree ws (sub_rows ws) (a ++ c) a (omega arith) (take-append-le (sub_rows ws) a c h)

  -- a consumer with its rows, those before it and those after it
  module _ (w : Row) (f h : List Row) (p : length f ≡ inflight_count w) (q : length h ≡ held_count w) where
    each-cons : (vs c : List Row) → each_sub of (w ∷ vs) (f ++ (h ++ c)) ≡ of w f h ∷ each_sub of vs c
    unfolding each_sub
    each-cons vs c =
        let d : drop (inflight_count w) (f ++ (h ++ c)) ≡ h ++ c = drop_at f (h ++ c) (inflight_count w) p in
        let one : take (inflight_count w) (f ++ (h ++ c)) ≡ f = take_at f (h ++ c) (inflight_count w) p in
        let two : take (held_count w) (drop (inflight_count w) (f ++ (h ++ c))) ≡ h = ap (take (held_count w)) d ∙ take_at h c (held_count w) q in
        let three : drop (held_count w) (drop (inflight_count w) (f ++ (h ++ c))) ≡ c = ap (drop (held_count w)) d ∙ drop_at h c (held_count w) q in
        λ i. of w (one i) (two i) ∷ each_sub of vs (three i)

    pub each-around : (ws vs a c : List Row) → length a ≡ sub_rows ws → each_sub of (ws ++ w ∷ vs) (a ++ (f ++ (h ++ c))) ≡ each_sub of ws a ++ of w f h ∷ each_sub of vs c
    each-around ws vs a c e =
        each_append ws (w ∷ vs) (a ++ (f ++ (h ++ c)))
        ∙ ap₂ (λ (x : List A) (y : List Row). x ++ each_sub of (w ∷ vs) y) (each-before ws a (f ++ (h ++ c)) (omega arith)) (drop_at a (f ++ (h ++ c)) (sub_rows ws) e)
        ∙ ap (λ (x : List A). each_sub of ws a ++ x) (each-cons vs c)

  -- what is read of the consumer at a place
  abbrev pub of_in : List Row → List Row → ℕ → A
  of_in ws rows i = of (get_or ws i []) (flying_in ws rows i) (held_in ws rows i)

  pub each-split : (ws rows : List Row) (i : ℕ) → i < length ws
      → each_sub of ws rows ≡ each_sub of (take i ws) rows ++ of_in ws rows i ∷ each_sub of (drop (suc i) ws) (after_in ws rows i)
  unfolding each_sub
  each-split ws rows i h = ap (λ (l : List Row). each_sub of l rows) (split_at ws i [] h) ∙ each_append (take i ws) (get_or ws i [] ∷ drop (suc i) ws) rows

  head-length : (ws rows : List Row) (i : ℕ) → i < length ws → length (each_sub of (take i ws) rows) ≡ i
  head-length ws rows i h = each-sub-length of (take i ws) rows ∙ length-take-le i ws (omega arith)

  pub each-nth : (ws rows : List Row) (i : ℕ) → i < length ws → nth i (each_sub of ws rows) ≡ some (of_in ws rows i)
  each-nth ws rows i h =
      let a : List A = each_sub of (take i ws) rows in
      let b : List A = each_sub of (drop (suc i) ws) (after_in ws rows i) in
      ap₂ nth (sym (head-length ws rows i h)) (each-split ws rows i h) ∙ nth-at a (of_in ws rows i) b

  pub each_set : (ws rows : List Row) (i : ℕ) (s : A) → i < length ws
      → set (each_sub of ws rows) i s ≡ each_sub of (take i ws) rows ++ s ∷ each_sub of (drop (suc i) ws) (after_in ws rows i)
  each_set ws rows i s h =
      let a : List A = each_sub of (take i ws) rows in
      let b : List A = each_sub of (drop (suc i) ws) (after_in ws rows i) in
      ap (λ (l : List A). set l i s) (each-split ws rows i h) ∙ set_at a (of_in ws rows i) b s i (head-length ws rows i h)

  -- another consumer in the place, with other rows; the rows before are as they were, and the later consumers see what they saw
  pub each-put : (ws rows : List Row) (i : ℕ) (w : Row) (f h c : List Row) → i < length ws → sub_rows (take i ws) ≤ length rows
      → length f ≡ inflight_count w → length h ≡ held_count w → each_sub of (drop (suc i) ws) c ≡ each_sub of (drop (suc i) ws) (after_in ws rows i)
      → each_sub of (set ws i w) (take (sub_rows (take i ws)) rows ++ (f ++ (h ++ c))) ≡ set (each_sub of ws rows) i (of w f h)
  each-put ws rows i w f h c b e p q r =
      let n : ℕ = sub_rows (take i ws) in
      let a : List Row = take n rows in
      ap (λ (l : List Row). each_sub of l (a ++ (f ++ (h ++ c)))) (set_split ws i w b)
      ∙ each-around w f h p q (take i ws) (drop (suc i) ws) a c (length-take-le n rows e)
      ∙ ap₂ (λ (x y : List A). x ++ of w f h ∷ y) (each-front (take i ws) n rows (omega arith)) r
      ∙ sym (each_set ws rows i (of w f h) b)

  -- another consumer with the same rows
  pub each-reword : (ws rows : List Row) (i : ℕ) (w : Row) → i < length ws → inflight_count w ≡ inflight_count (get_or ws i []) → held_count w ≡ held_count (get_or ws i [])
      → each_sub of (set ws i w) rows ≡ set (each_sub of ws rows) i (of w (flying_in ws rows i) (held_in ws rows i))
  unfolding each_sub
  each-reword ws rows i w b p q =
      let r : List Row = from_in ws rows i in
      ap (λ (l : List Row). each_sub of l rows) (set_split ws i w b)
      ∙ each_append (take i ws) (w ∷ drop (suc i) ws) rows
      ∙ ap₂ (λ (m n : ℕ). each_sub of (take i ws) rows ++ of w (take m r) (take n (drop m r)) ∷ each_sub of (drop (suc i) ws) (drop n (drop m r))) p q
      ∙ sym (each_set ws rows i (of w (flying_in ws rows i) (held_in ws rows i)) b)

  -- the consumer and its rows gone
  pub each-gone : (ws rows : List Row) (i : ℕ) (c : List Row) → i < length ws → sub_rows (take i ws) ≤ length rows
      → each_sub of (drop (suc i) ws) c ≡ each_sub of (drop (suc i) ws) (after_in ws rows i)
      → each_sub of (take i ws ++ drop (suc i) ws) (take (sub_rows (take i ws)) rows ++ c) ≡ take i (each_sub of ws rows) ++ drop (suc i) (each_sub of ws rows)
  each-gone ws rows i c b e r =
      let n : ℕ = sub_rows (take i ws) in
      let a : List Row = take n rows in
      let l : length a ≡ n = length-take-le n rows e in
      let x : List A = each_sub of (take i ws) rows in
      let y : List A = each_sub of (drop (suc i) ws) (after_in ws rows i) in
      let s : A = of_in ws rows i in
      let d : length x ≡ i = head-length ws rows i b in
      let split : each_sub of ws rows ≡ x ++ s ∷ y = each-split ws rows i b in
      let front : take i (each_sub of ws rows) ≡ x = ap (take i) split ∙ take_at x (s ∷ y) i d in
      let back : drop (suc i) (each_sub of ws rows) ≡ y =
      ap₂ (λ (m : ℕ) (u : List A). drop (suc m) u) (sym d) split ∙ drop_past x s y in
      each_append (take i ws) (drop (suc i) ws) (a ++ c)
      ∙ ap₂ (λ (u : List A) (v : List Row). u ++ each_sub of (drop (suc i) ws) v) (each-before (take i ws) a c (omega arith) ∙ each-front (take i ws) n rows (omega arith)) (drop_at a c n l)
      ∙ ap₂ (λ (u v : List A). u ++ v) (sym front) (r ∙ sym back)

-- ---- the view of them

module _ (k : Kind) where
  pub subs-append : (ws vs rows : List Row) → subs_at k (ws ++ vs) rows ≡ subs_at k ws rows ++ subs_at k vs (drop (sub_rows ws) rows)
  subs-append = each_append (sub_at k)

  pub subs-front : (ws : List Row) (n : ℕ) (rows : List Row) → sub_rows ws ≤ n → subs_at k ws (take n rows) ≡ subs_at k ws rows
  subs-front = each-front (sub_at k)

  pub subs-agree : (ws : List Row) (n : ℕ) (x y : List Row) → sub_rows ws ≤ n → take n x ≡ take n y → subs_at k ws x ≡ subs_at k ws y
  subs-agree = each-agree (sub_at k)

  pub subs-before : (ws a c : List Row) → sub_rows ws ≤ length a → subs_at k ws (a ++ c) ≡ subs_at k ws a
  subs-before = each-before (sub_at k)

  pub subs-around : (w : Row) (f h : List Row) → length f ≡ inflight_count w → length h ≡ held_count w
      → (ws vs a c : List Row) → length a ≡ sub_rows ws → subs_at k (ws ++ w ∷ vs) (a ++ (f ++ (h ++ c))) ≡ subs_at k ws a ++ sub_at k w f h ∷ subs_at k vs c
  subs-around = each-around (sub_at k)

  pub subs-split : (ws rows : List Row) (i : ℕ) → i < length ws
      → subs_at k ws rows ≡ subs_at k (take i ws) rows ++ sub_in k ws rows i ∷ subs_at k (drop (suc i) ws) (after_in ws rows i)
  subs-split = each-split (sub_at k)

  pub subs-nth : (ws rows : List Row) (i : ℕ) → i < length ws → nth i (subs_at k ws rows) ≡ some (sub_in k ws rows i)
  subs-nth = each-nth (sub_at k)

  pub subs-set : (ws rows : List Row) (i : ℕ) (s : Def.Sub) → i < length ws
      → set (subs_at k ws rows) i s ≡ subs_at k (take i ws) rows ++ s ∷ subs_at k (drop (suc i) ws) (after_in ws rows i)
  subs-set = each_set (sub_at k)

  pub subs-put : (ws rows : List Row) (i : ℕ) (w : Row) (f h c : List Row) → i < length ws → sub_rows (take i ws) ≤ length rows
      → length f ≡ inflight_count w → length h ≡ held_count w → subs_at k (drop (suc i) ws) c ≡ subs_at k (drop (suc i) ws) (after_in ws rows i)
      → subs_at k (set ws i w) (take (sub_rows (take i ws)) rows ++ (f ++ (h ++ c))) ≡ set (subs_at k ws rows) i (sub_at k w f h)
  subs-put = each-put (sub_at k)

  pub subs-reword : (ws rows : List Row) (i : ℕ) (w : Row) → i < length ws → inflight_count w ≡ inflight_count (get_or ws i []) → held_count w ≡ held_count (get_or ws i [])
      → subs_at k (set ws i w) rows ≡ set (subs_at k ws rows) i (sub_at k w (flying_in ws rows i) (held_in ws rows i))
  subs-reword = each-reword (sub_at k)

  pub subs-gone : (ws rows : List Row) (i : ℕ) (c : List Row) → i < length ws → sub_rows (take i ws) ≤ length rows
      → subs_at k (drop (suc i) ws) c ≡ subs_at k (drop (suc i) ws) (after_in ws rows i)
      → subs_at k (take i ws ++ drop (suc i) ws) (take (sub_rows (take i ws)) rows ++ c) ≡ take i (subs_at k ws rows) ++ drop (suc i) (subs_at k ws rows)
  subs-gone = each-gone (sub_at k)

-- ---- the rows by their places

-- those before a consumer, in flight, held, and after it
pub rows-parts : (ws rows : List Row) (i : ℕ) → take (sub_rows (take i ws)) rows ++ (flying_in ws rows i ++ (held_in ws rows i ++ after_in ws rows i)) ≡ rows
rows-parts ws rows i =
    let n : ℕ = sub_rows (take i ws) in
    let w : Row = get_or ws i [] in
    ap (λ (x : List Row). take n rows ++ (flying_in ws rows i ++ x)) (take-append-drop (held_count w) (drop (inflight_count w) (drop n rows)))
    ∙ ap (λ (x : List Row). take n rows ++ x) (take-append-drop (inflight_count w) (drop n rows))
    ∙ take-append-drop n rows

module _ (ws rows : List Row) (i : ℕ) (b : i < length ws) (r : sub_rows ws ≤ length rows) where
  pub flying-length : length (flying_in ws rows i) ≡ inflight_count (get_or ws i [])
  flying-length =
      let s = rows_split ws i b in
      length-take-le (inflight_count (get_or ws i [])) (from_in ws rows i) (simp length-drop (omega arith))

  pub held-length : length (held_in ws rows i) ≡ held_count (get_or ws i [])
  held-length =
      let s = rows_split ws i b in
      length-take-le (held_count (get_or ws i [])) (drop (inflight_count (get_or ws i [])) (from_in ws rows i)) (simp length-drop (omega arith))

drop-four : (a b c e : ℕ) (l : List Row) → drop e (drop c (drop b (drop a l))) ≡ drop (a + (b + (c + e))) l
drop-four a b c e l = drop-three b c e (drop a l) ∙ drop-drop (b + (c + e)) a l

-- the rows past all the consumers': as they are, after `subs-put`, and after `subs-gone`
pub after-all : (ws rows : List Row) (i : ℕ) → i < length ws → drop (sub_rows ws) rows ≡ drop (sub_rows (drop (suc i) ws)) (after_in ws rows i)
after-all ws rows i b =
    ap (λ (n : ℕ). drop n rows) (rows_split ws i b)
    ∙ sym (drop-four (sub_rows (take i ws)) (inflight_count (get_or ws i [])) (held_count (get_or ws i [])) (sub_rows (drop (suc i) ws)) rows)

pub after-put : (ws rows : List Row) (i : ℕ) (w : Row) (f h c : List Row) → i < length ws → sub_rows (take i ws) ≤ length rows
    → length f ≡ inflight_count w → length h ≡ held_count w
    → drop (sub_rows (set ws i w)) (take (sub_rows (take i ws)) rows ++ (f ++ (h ++ c))) ≡ drop (sub_rows (drop (suc i) ws)) c
after-put ws rows i w f h c b e p q =
    let n : ℕ = sub_rows (take i ws) in
    let m : ℕ = sub_rows (drop (suc i) ws) in
    let l : List Row = take n rows ++ (f ++ (h ++ c)) in
    ap (λ (j : ℕ). drop j l) (rows-set ws i w b)
    ∙ sym (drop-four n (inflight_count w) (held_count w) m l)
    ∙ ap (λ (x : List Row). drop m (drop (held_count w) (drop (inflight_count w) x))) (drop_at (take n rows) (f ++ (h ++ c)) n (length-take-le n rows e))
    ∙ ap (λ (x : List Row). drop m (drop (held_count w) x)) (drop_at f (h ++ c) (inflight_count w) p)
    ∙ ap (drop m) (drop_at h c (held_count w) q)

pub after-gone : (ws rows : List Row) (i : ℕ) (c : List Row) → sub_rows (take i ws) ≤ length rows
    → drop (sub_rows (take i ws ++ drop (suc i) ws)) (take (sub_rows (take i ws)) rows ++ c) ≡ drop (sub_rows (drop (suc i) ws)) c
after-gone ws rows i c e =
    let n : ℕ = sub_rows (take i ws) in
    let m : ℕ = sub_rows (drop (suc i) ws) in
    ap (λ (j : ℕ). drop j (take n rows ++ c)) (rows_append (take i ws) (drop (suc i) ws))
    ∙ sym (drop-drop m n (take n rows ++ c))
    ∙ ap (drop m) (drop_at (take n rows) c n (length-take-le n rows e))
