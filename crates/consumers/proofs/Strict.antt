-- That the words in use are strict: of the consumers in parts, at a place, and after a store. Assumes nothing.
use mathlib.Core.Path.{◌≡◌, refl, sym, ap, ◌∙◌}
use mathlib.Core.Bool.{Bool, true, false, ◌&&◌}
use mathlib.Core.List.{List, [], ◌∷◌, ◌++◌, map}
use Prim.Native.Nat.{ℕ, suc, ◌≤◌, ◌<◌}
use native.Mathlib.Omega.{arith}
use lib.ListN.{length, take, drop, get_or, set}
use lib.Seq.{length-take-le, drop_at, set_split}
use mir.Val.{bool_byte}
use Rattle.definition.specs.Base.{all, every}
use Rattle.definition.specs.Layout.{Row, inflight_count, held_count, each_sub, sub_rows, is_mark, entry_strict, flying_strict, words_strict, sub_strict, subs_strict, tables_strict}
use Rattle.definition.proofs.Tests.{and_left, and_right, and_both}
pub use Rattle.definition.proofs.Lists.{all_first, all_rest, all_left, all_right, all_weaker}
use Rattle.consumers.specs.declared.Sub.{Sub}
use Rattle.consumers.specs.Consumers.{sub_words}
use Rattle.consumers.specs.Seats.{flying_in, held_in, after_in}
use Rattle.consumers.specs.Table.{held_back_row, cleared_row}
use Rattle.consumers.proofs.View.{each_append, each-agree, each-before, each-around, each-split, each-front, each-reword, each_set}

-- ---- tests of lists

every_append : (l m : List Bool) → every (l ++ m) ≡ (every l && every m)
every_append [] m = refl
every_append (true ∷ l) m = every_append l m
every_append (false ∷ l) m = refl

pub all_map : {A B : Type 0} (p : B → Bool) (q : A → Bool) (f : A → B) → ((x : A) → q x ≡ true → p (f x) ≡ true) → (l : List A) → all q l ≡ true → all p (map f l) ≡ true
all_map p q f g [] h = refl
all_map p q f g (x ∷ l) h = and_both (p (f x)) (all p (map f l)) (g x (and_left (q x) _ h)) (all_map p q f g l (and_right (q x) _ h))

-- ---- one consumer

pub mark-byte : (b : Bool) → is_mark (bool_byte b) ≡ true
mark-byte true = refl
mark-byte false = refl

-- what is stored is strict
pub stored-strict : (s : Sub) → words_strict (sub_words s) ≡ true
unfolding words_strict sub_words
stored-strict s = rw (mark-byte s.no_local, mark-byte s.browser, mark-byte s.finished, mark-byte s.pulling)

-- the three parts of one consumer
pub record SubStrict (w : Row) (f h : List Row) : Type 0 where
  pub words : words_strict w ≡ true
  pub flying : all flying_strict f ≡ true
  pub held : all entry_strict h ≡ true

pub strict-sub : (w : Row) (f h : List Row) → SubStrict w f h → sub_strict w f h ≡ true
unfolding sub_strict
strict-sub w f h s = rw (s.words, s.flying, s.held)

pub sub-strict : (w : Row) (f h : List Row) → sub_strict w f h ≡ true → SubStrict w f h
unfolding sub_strict
sub-strict w f h e =
    let r = and_right (words_strict w) _ e in
    record { words = and_left (words_strict w) _ e; flying = and_left (all flying_strict f) _ r; held = and_left (all entry_strict h) _ (and_right (all flying_strict f) _ r) }

-- ---- the consumers

-- some, then others
pub strict-append : (ws vs rows : List Row) → subs_strict (ws ++ vs) rows ≡ (subs_strict ws rows && subs_strict vs (drop (sub_rows ws) rows))
strict-append ws vs rows = ap every (each_append sub_strict ws vs rows) ∙ every_append (each_sub sub_strict ws rows) (each_sub sub_strict vs (drop (sub_rows ws) rows))

pub strict-front : (ws : List Row) (n : ℕ) (rows : List Row) → sub_rows ws ≤ n → subs_strict ws (take n rows) ≡ subs_strict ws rows
strict-front ws n rows h = ap every (each-front sub_strict ws n rows h)

pub strict-agree : (ws : List Row) (n : ℕ) (x y : List Row) → sub_rows ws ≤ n → take n x ≡ take n y → subs_strict ws x ≡ subs_strict ws y
strict-agree ws n x y h q = ap every (each-agree sub_strict ws n x y h q)

pub strict-before : (ws a c : List Row) → sub_rows ws ≤ length a → subs_strict ws (a ++ c) ≡ subs_strict ws a
strict-before ws a c h = ap every (each-before sub_strict ws a c h)

-- a consumer with its rows, those before it and those after it
pub strict-around : (w : Row) (f h : List Row) → length f ≡ inflight_count w → length h ≡ held_count w
    → (ws vs a c : List Row) → length a ≡ sub_rows ws → subs_strict (ws ++ w ∷ vs) (a ++ (f ++ (h ++ c))) ≡ (subs_strict ws a && (sub_strict w f h && subs_strict vs c))
strict-around w f h p q ws vs a c e = ap every (each-around sub_strict w f h p q ws vs a c e) ∙ every_append (each_sub sub_strict ws a) (sub_strict w f h ∷ each_sub sub_strict vs c)

-- the parts about the consumer at a place
pub record StrictAt (ws rows : List Row) (i : ℕ) : Type 0 where
  pub before : subs_strict (take i ws) rows ≡ true
  pub own : SubStrict (get_or ws i []) (flying_in ws rows i) (held_in ws rows i)
  pub after : subs_strict (drop (suc i) ws) (after_in ws rows i) ≡ true

pub strict-at : (ws rows : List Row) (i : ℕ) → i < length ws → subs_strict ws rows ≡ true → StrictAt ws rows i
strict-at ws rows i b h =
    let a : List Bool = each_sub sub_strict (take i ws) rows in
    let own : Bool = sub_strict (get_or ws i []) (flying_in ws rows i) (held_in ws rows i) in
    let c : List Bool = each_sub sub_strict (drop (suc i) ws) (after_in ws rows i) in
    let z : (every a && (own && every c)) ≡ true = sym (ap every (each-split sub_strict ws rows i b) ∙ every_append a (own ∷ c)) ∙ h in
    let r = and_right (every a) _ z in
    record { before = and_left (every a) _ z; own = sub-strict _ _ _ (and_left own _ r); after = and_right own _ r }

-- another consumer in the place, with other rows, on other rows after it
pub strict-put : (ws rows : List Row) (i : ℕ) (w : Row) (f h c : List Row) → i < length ws → sub_rows (take i ws) ≤ length rows
    → length f ≡ inflight_count w → length h ≡ held_count w → StrictAt ws rows i → SubStrict w f h → subs_strict (drop (suc i) ws) c ≡ true
    → subs_strict (set ws i w) (take (sub_rows (take i ws)) rows ++ (f ++ (h ++ c))) ≡ true
strict-put ws rows i w f h c b e p q s t r =
    let n : ℕ = sub_rows (take i ws) in
    let a : List Row = take n rows in
    ap (λ (l : List Row). subs_strict l (a ++ (f ++ (h ++ c)))) (set_split ws i w b)
    ∙ strict-around w f h p q (take i ws) (drop (suc i) ws) a c (length-take-le n rows e)
    ∙ and_both (subs_strict (take i ws) a) _ (strict-front (take i ws) n rows (omega arith) ∙ s.before) (and_both (sub_strict w f h) _ (strict-sub w f h t) r)

-- another consumer with the same rows
pub strict-reword : (ws rows : List Row) (i : ℕ) (w : Row) → i < length ws → inflight_count w ≡ inflight_count (get_or ws i []) → held_count w ≡ held_count (get_or ws i [])
    → words_strict w ≡ true → subs_strict ws rows ≡ true → subs_strict (set ws i w) rows ≡ true
strict-reword ws rows i w b p q s h =
    let g = strict-at ws rows i b h in
    let new : Bool = sub_strict w (flying_in ws rows i) (held_in ws rows i) in
    let a : List Bool = each_sub sub_strict (take i ws) rows in
    let c : List Bool = each_sub sub_strict (drop (suc i) ws) (after_in ws rows i) in
    ap every (each-reword sub_strict ws rows i w b p q ∙ each_set sub_strict ws rows i new b)
    ∙ every_append a (new ∷ c)
    ∙ and_both (every a) _ g.before (and_both new _ (strict-sub w _ _ (record { words = s; flying = g.own.flying; held = g.own.held })) g.after)

-- the consumer and its rows gone
pub strict-gone : (ws rows : List Row) (i : ℕ) (c : List Row) → sub_rows (take i ws) ≤ length rows
    → StrictAt ws rows i → subs_strict (drop (suc i) ws) c ≡ true
    → subs_strict (take i ws ++ drop (suc i) ws) (take (sub_rows (take i ws)) rows ++ c) ≡ true
strict-gone ws rows i c e s r =
    let n : ℕ = sub_rows (take i ws) in
    let a : List Row = take n rows in
    let l : length a ≡ n = length-take-le n rows e in
    strict-append (take i ws) (drop (suc i) ws) (a ++ c)
    ∙ and_both (subs_strict (take i ws) (a ++ c)) _
    (strict-before (take i ws) a c (omega arith) ∙ strict-front (take i ws) n rows (omega arith) ∙ s.before)
    (ap (subs_strict (drop (suc i) ws)) (drop_at a c n l) ∙ r)

-- ---- the tables

-- the consumers with their rows, and n rows after theirs
pub record TablesStrict (n : ℕ) (ws rows : List Row) : Type 0 where
  pub subs : subs_strict ws rows ≡ true
  pub others : all entry_strict (take n (drop (sub_rows ws) rows)) ≡ true

pub tables-strict : (n : ℕ) (ws rows : List Row) → tables_strict n ws rows ≡ true → TablesStrict n ws rows
unfolding tables_strict
tables-strict n ws rows h = record { subs = and_left (subs_strict ws rows) _ h; others = and_right (subs_strict ws rows) _ h }

pub strict-tables : (n : ℕ) (ws rows : List Row) → TablesStrict n ws rows → tables_strict n ws rows ≡ true
unfolding tables_strict
strict-tables n ws rows t = and_both (subs_strict ws rows) _ t.subs t.others

-- ---- every consumer's words changed

pub strict-held-back : (seq : ℕ) (ws rows : List Row) → subs_strict (map (held_back_row seq) ws) rows ≡ subs_strict ws rows
unfolding each_sub held_back_row sub_strict words_strict
strict-held-back seq [] rows = refl
strict-held-back seq (w ∷ ws) rows = ap (λ (x : Bool). sub_strict w (take (inflight_count w) rows) (take (held_count w) (drop (inflight_count w) rows)) && x) (strict-held-back seq ws (drop (held_count w) (drop (inflight_count w) rows)))

pub strict-cleared : (ws rows after : List Row) → subs_strict ws rows ≡ true → subs_strict (map cleared_row ws) after ≡ true
unfolding each_sub cleared_row sub_strict words_strict
strict-cleared [] rows after h = refl
strict-cleared (w ∷ ws) rows after h =
    let f : List Row = take (inflight_count w) rows in
    let l : List Row = take (held_count w) (drop (inflight_count w) rows) in
    let own = sub-strict w f l (and_left (sub_strict w f l) _ h) in
    and_both (sub_strict (cleared_row w) [] []) _ (strict-sub (cleared_row w) [] [] (record { words = own.words; flying = refl; held = refl })) (strict-cleared ws _ after (and_right (sub_strict w f l) _ h))
