-- Refusals come exactly from document 01's table, and a refused call changes and sends nothing: the claims of specs/Refusals. Assumes nothing.
use Prim.Native.Nat.{ℕ}
use native.Mathlib.Omega.{arith}
use mathlib.Core.Path.{◌≡◌, refl, sym, ◌∙◌, ap}
use mathlib.Core.Bool.{Bool, true, false, not, ◌&&◌, ◌||◌}
use mathlib.Core.List.{List, [], ◌∷◌}
use mathlib.Core.Option.{Option, none, some}
use lib.Dec.{leb, ltb, eqb}
use lib.ListN.{drop}
use borrow.Author.Tests.{leb-true, eqb-true}
use Rattle.words.proofs.Places.{first_of, exact}
use Rattle.definition.specs.Base.{whether◌then◌else◌, all, is_some}
use Rattle.definition.specs.Types.{Dest}
use Rattle.definition.specs.Consumer.{zero_stats}
use Rattle.definition.specs.Calls.{Lengths, state_short, short, sound, Call, discarding, missing, arguments_ok, own_refusal, Result, refused, refusal, call}
use Rattle.definition.specs.Words.{provided, read, ranged_call, decode, open_words, open_step, call_step, step}
use Rattle.definition.specs.Queries.{query_refusal, query_ok, Asked, query, Counted, counters, page_max, Page, page}
use Rattle.definition.specs.Layout.{Buffers, view, formed, sound_buffers, lengths_of, buffer_step, buffer_call, buffer_query, buffer_counters, buffer_page}
use Rattle.definition.specs.Refusals.{CheckPlace, ◌when◌, table, check_places, buffer_places, uncoded_places, buffer_uncoded_places, query_places, Refuses, StepRefuses, BufferRefuses, UncodedRefuses, QueryRefuses, CountersRefuse, PageRefuses, BufferUncodedRefuses, BufferQueryRefuses, BufferCountersRefuse, BufferPageRefuses}
use Rattle.definition.proofs.Tests.{if-true, if-false, by-if, by-test}
use Rattle.definition.proofs.Lists.{none-some, some_inj}
use Rattle.definition.proofs.Made.{in_range-ok}

-- ---- a call of the call file

-- the table's places after 9
abbrev own : ℕ → List ℕ → Dest → List CheckPlace
own code ws t = drop 4 (table false true code ws t)

abbrev Own : ℕ → List ℕ → Dest → Option Call → Type 0
Own code ws t o = (c : Call) → o ≡ some c → own_refusal t c ≡ first_of (own code ws t)

provided-own : (code n : ℕ) (ws : List ℕ) (t : Dest) (b : Bool) (d : Call) → eqb code n ≡ true → own_refusal t d ≡ first_of (own n ws t) → Own code ws t (provided b d)
unfolding provided
provided-own code n ws t true d e h c q = ap (own_refusal t) (sym (some_inj q)) ∙ h ∙ ap (λ (k : ℕ). first_of (own k ws t)) (sym (eqb-true code n e))
provided-own code n ws t false d e h c q = absurd (none-some q)

read-own : (code : ℕ) (ws : List ℕ) (t : Dest) → Own code ws t (read code ws)
unfolding read own_refusal
read-own code ws t =
    by-if (Own code ws t) (eqb code 1) _ _ (λ e. provided-own code 1 ws t _ _ e refl)
    (λ e. by-if (Own code ws t) (eqb code 2) _ _ (λ e. provided-own code 2 ws t _ _ e refl)
    (λ e. by-if (Own code ws t) (eqb code 3) _ _ (λ e. provided-own code 3 ws t _ _ e refl)
    (λ e. by-if (Own code ws t) (eqb code 4) _ _ (λ e. provided-own code 4 ws t _ _ e refl)
    (λ e. by-if (Own code ws t) (eqb code 5) _ _ (λ e. provided-own code 5 ws t _ _ e refl)
    (λ e. by-if (Own code ws t) (eqb code 6) _ _ (λ e. provided-own code 6 ws t _ _ e refl)
    (λ e. by-if (Own code ws t) (eqb code 7) _ _ (λ e. provided-own code 7 ws t _ _ e refl)
    (λ e. by-if (Own code ws t) (eqb code 8) _ _ (λ e. provided-own code 8 ws t _ _ e refl)
    (λ e. by-if (Own code ws t) (eqb code 9) _ _ (λ e. provided-own code 9 ws t _ _ e refl)
    (λ e. by-if (Own code ws t) (eqb code 10) _ _ (λ e. provided-own code 10 ws t _ _ e refl)
    (λ e. by-if (Own code ws t) (eqb code 11) _ _ (λ e. provided-own code 11 ws t _ _ e refl)
    (λ e. by-if (Own code ws t) (eqb code 12) _ _ (λ e. provided-own code 12 ws t _ _ e refl)
    (λ e. by-if (Own code ws t) (eqb code 13) _ _ (λ e. provided-own code 13 ws t _ _ e refl)
    (λ e. by-if (Own code ws t) (eqb code 14) _ _ (λ e. provided-own code 14 ws t _ _ e refl)
    (λ e. by-if (Own code ws t) (eqb code 15) _ _ (λ e. provided-own code 15 ws t _ _ e refl)
    (λ e c q. absurd (none-some q))))))))))))))))

in_range-some : (o : Option Call) (c : Call) → ranged_call o ≡ some c → o ≡ some c
unfolding provided
in_range-some none c = λ q. q
in_range-some (some d) c = by-test (arguments_ok d) (λ e. rw e (λ q. q)) (λ e. rw e (λ q. absurd (none-some q)))

call-refusal : (lent : Lengths) (c : Call) (t : Dest) → (call lent c t).refusal ≡ refusal lent c t
unfolding call
call-refusal lent c t = by-if (λ (r : Result). r.refusal ≡ refusal lent c t) (eqb (refusal lent c t) 0) _ _ (λ e. sym (eqb-true (refusal lent c t) 0 e)) (λ e. refl)

coded-first : (lent : Lengths) (t : Dest) (o : Option Call) (rest : ℕ) → ((c : Call) → o ≡ some c → arguments_ok c ≡ true) → ((c : Call) → o ≡ some c → own_refusal t c ≡ rest) →
    (call_step lent t o).refusal ≡ whether short lent then 1 else whether not (sound t) then 2 else whether not (is_some o) then 3 else whether eqb t.calls_used t.call_limit then 9 else rest
unfolding call_step refusal
coded-first lent t none rest a h = by-test (short lent) (λ c. rw c) (λ c. by-test (sound t) (λ d. rw (c, d)) (λ d. rw (c, d)))
coded-first lent t (some c) rest a h = call-refusal lent c t ∙ rw (a c refl, h c refl)

open-first : (lent : Lengths) (ws : List ℕ) (t : Dest) → (open_step lent ws t).refusal ≡ first_of (check_places lent 0 ws t)
unfolding open_step
open-first lent ws t = by-test (short lent) (λ c. rw c) (λ c. by-test (open_words ws) (λ d. rw (c, d)) (λ d. rw (c, d)))

pub step-first : (lent : Lengths) (code : ℕ) (ws : List ℕ) (t : Dest) → (step lent code ws t).refusal ≡ first_of (check_places lent code ws t)
unfolding step decode
step-first lent code ws t = by-test (eqb code 0)
    (λ e. ap (λ (r : Result). r.refusal) (if-true (open_step lent ws t) (call_step lent t (decode code ws)) e) ∙ open-first lent ws t ∙ ap (λ (k : ℕ). first_of (check_places lent k ws t)) (sym (eqb-true code 0 e)))
    (λ e. rw e (coded-first lent t (decode code ws) (first_of (own code ws t)) (in_range-ok (read code ws)) (λ c q. read-own code ws t c (in_range-some (read code ws) c q))))

-- a refused call changes nothing
abbrev pub Kept : Dest → Result → Type 0
Kept t r = (r.refusal ≡ 0 → ⊥) → r ≡ refused r.refusal t

call_kept : (lent : Lengths) (c : Call) (t : Dest) → Kept t (call lent c t)
unfolding call
call_kept lent c t = by-if (Kept t) (eqb (refusal lent c t) 0) _ _ (λ e n. absurd (n refl)) (λ e n. refl)

call_step-kept : (lent : Lengths) (t : Dest) (o : Option Call) → Kept t (call_step lent t o)
unfolding call_step
call_step-kept lent t none n = refl
call_step-kept lent t (some c) n = call_kept lent c t n

pub step_kept : (lent : Lengths) (code : ℕ) (ws : List ℕ) (t : Dest) → Kept t (step lent code ws t)
unfolding step open_step
step_kept lent code ws t = by-if (Kept t) (eqb code 0) _ _
    (λ e. by-if (Kept t) (short lent) _ _ (λ c n. refl) (λ c. by-if (Kept t) (open_words ws) _ _ (λ d n. absurd (n refl)) (λ d n. refl)))
    (λ e. call_step-kept lent t (decode code ws))

refuses : (r : Result) (ps : List CheckPlace) (t : Dest) → all (λ p. leb 1 p.number) ps ≡ true → r.refusal ≡ first_of ps → Kept t r → Refuses r ps t
refuses r ps t h e k = record {
  exact = exact r.refusal ps h e;
  answer = λ n. ap (λ (x : Result). x.answer) (k n);
  events = λ n. ap (λ (x : Result). x.events) (k n);
  dest = λ n. ap (λ (x : Result). x.dest) (k n);
}

pub step-refuses : StepRefuses
step-refuses lent code ws t = refuses (step lent code ws t) (check_places lent code ws t) t refl (step-first lent code ws t) (step_kept lent code ws t)

-- ---- on buffers

-- the table looks at soundness only in its second place
buffer-first : (b : Buffers) (events code : ℕ) (ws : List ℕ) → (buffer_step b events code ws).refusal ≡ first_of (buffer_places b events code ws)
unfolding buffer_step sound_buffers
buffer-first b events code ws = by-test (short (lengths_of b events))
    (λ s. rw s (step-first (lengths_of b events) code ws (view b) ∙ rw s))
    (λ s. by-test (eqb code 0)
    (λ z. rw (s, z) (step-first (lengths_of b events) code ws (view b) ∙ rw (s, z)))
    (λ z. by-test (formed b)
    (λ f. rw (s, z, f) (step-first (lengths_of b events) code ws (view b) ∙ rw (s, z)))
    (λ f. rw (s, z, f))))

buffer-kept : (b : Buffers) (events code : ℕ) (ws : List ℕ) → Kept (view b) (buffer_step b events code ws)
unfolding buffer_step
buffer-kept b events code ws = by-if (Kept (view b)) (not (short (lengths_of b events)) && (not (eqb code 0) && not (formed b))) _ _ (λ c n. refl) (λ c. step_kept (lengths_of b events) code ws (view b))

pub buffer-refuses : BufferRefuses
buffer-refuses b events code ws = refuses (buffer_step b events code ws) (buffer_places b events code ws) (view b) refl (buffer-first b events code ws) (buffer-kept b events code ws)

-- ---- the two calls that have no code

uncoded : (lent : Lengths) (c : Call) (t : Dest) → arguments_ok c ≡ true → own_refusal t c ≡ 0 → Refuses (call lent c t) (uncoded_places lent t) t
unfolding refusal
uncoded lent c t a o = refuses (call lent c t) (uncoded_places lent t) t refl (call-refusal lent c t ∙ rw (a, o)) (call_kept lent c t)

pub uncoded-refuses : UncodedRefuses
unfolding arguments_ok own_refusal
uncoded-refuses lent t = (uncoded lent discarding t refl refl, uncoded lent missing t refl refl)

-- ---- queries

query-first : (is_short ranged_call : Bool) (t : Dest) → query_refusal is_short ranged_call t ≡ first_of (query_places is_short ranged_call t)
unfolding query_refusal
query-first is_short true t = refl
query-first is_short false t = refl

-- what an answer is beside a refusal
beside {ℓ} : {A : Type ℓ} (r : ℕ) (x y : A) → (r ≡ 0 → ⊥) → (whether leb r 0 then x else y) ≡ y
beside r x y n = if-false x y (by-test (leb r 0) (λ c. absurd (n (omega (arith, leb-true r 0 c)))) (λ c. c))

pub query-refuses : QueryRefuses
unfolding query
query-refuses lent q t = (exact _ _ refl (query-first (state_short lent) (query_ok q) t), beside (query_refusal (state_short lent) (query_ok q) t) _ 0)

pub counters-refuse : CountersRefuse
unfolding counters
counters-refuse lent t = (exact _ _ refl (query-first (state_short lent) true t), beside (query_refusal (state_short lent) true t) t.stats zero_stats)

page-refusal : (lent : Lengths) (lines offset limit : ℕ) (t : Dest) → (page lent lines offset limit t).refusal ≡ query_refusal (state_short lent || ltb lines page_max) true t
unfolding page
page-refusal lent lines offset limit t = by-if (λ (r : Page). r.refusal ≡ query_refusal (state_short lent || ltb lines page_max) true t) (leb (query_refusal (state_short lent || ltb lines page_max) true t) 0) _ _ (λ c. sym (omega (arith, leb-true (query_refusal (state_short lent || ltb lines page_max) true t) 0 c))) (λ c. refl)

pub page-refuses : PageRefuses
unfolding page
page-refuses lent lines offset limit t = (
  exact _ _ refl (page-refusal lent lines offset limit t ∙ query-first (state_short lent || ltb lines page_max) true t),
  by-if (λ (r : Page). (r.refusal ≡ 0 → ⊥) → (r.total ≡ 0) × (r.lines ≡ [])) (leb (query_refusal (state_short lent || ltb lines page_max) true t) 0) _ _ (λ c n. absurd (n refl)) (λ c n. (refl, refl)),
)

-- ---- the same on buffers

-- counts that do not fit the tables are refused in the second place, too
formed-first : {A : Type 0} (of : A → ℕ) (rest : List CheckPlace) (s f z : Bool) (x y : A) → of x ≡ 2 → of y ≡ first_of (1 when s ∷ 2 when not z ∷ rest)
    → of (whether not s && not f then x else y) ≡ first_of (1 when s ∷ 2 when not (f && z) ∷ rest)
formed-first of rest true f z x y p q = q
formed-first of rest false true z x y p q = q
formed-first of rest false false z x y p q = p

uncoded-on : (b : Buffers) (events : ℕ) (c : Call) → arguments_ok c ≡ true → own_refusal (view b) c ≡ 0 → Refuses (buffer_call b events c) (buffer_uncoded_places b events) (view b)
unfolding buffer_call sound_buffers refusal
uncoded-on b events c a o = refuses (buffer_call b events c) (buffer_uncoded_places b events) (view b) refl
    (formed-first (λ (r : Result). r.refusal) (9 when eqb (view b).calls_used (view b).call_limit ∷ []) (short (lengths_of b events)) (formed b) (sound (view b)) _ _ refl (call-refusal (lengths_of b events) c (view b) ∙ rw (a, o)))
    (by-if (Kept (view b)) (not (short (lengths_of b events)) && not (formed b)) _ _ (λ e n. refl) (λ e. call_kept (lengths_of b events) c (view b)))

pub buffer-uncoded-refuses : BufferUncodedRefuses
unfolding arguments_ok own_refusal
buffer-uncoded-refuses b events = (uncoded-on b events discarding refl refl, uncoded-on b events missing refl refl)

pub buffer-query-refuses : BufferQueryRefuses
unfolding buffer_query sound_buffers query
buffer-query-refuses b q =
    let s = state_short (lengths_of b 0) in (
      exact _ _ refl (formed-first (λ (r : Asked). r.refusal) (3 when not (query_ok q) ∷ []) s (formed b) (sound (view b)) _ _ refl (query-first s (query_ok q) (view b))),
      by-if (λ (r : Asked). (r.refusal ≡ 0 → ⊥) → r.answer ≡ 0) (not s && not (formed b)) _ _ (λ c n. refl) (λ c. (query-refuses (lengths_of b 0) q (view b)).1),
    )

pub buffer-counters-refuse : BufferCountersRefuse
unfolding buffer_counters sound_buffers counters
buffer-counters-refuse b =
    let s = state_short (lengths_of b 0) in (
      exact _ _ refl (formed-first (λ (r : Counted). r.refusal) (3 when false ∷ []) s (formed b) (sound (view b)) _ _ refl (query-first s true (view b))),
      by-if (λ (r : Counted). (r.refusal ≡ 0 → ⊥) → r.stats ≡ zero_stats) (not s && not (formed b)) _ _ (λ c n. refl) (λ c. (counters-refuse (lengths_of b 0) (view b)).1),
    )

pub buffer-page-refuses : BufferPageRefuses
unfolding buffer_page sound_buffers
buffer-page-refuses b lines offset limit =
    let s = state_short (lengths_of b 0) || ltb lines page_max in
    let t = view b in (
      exact _ _ refl (formed-first (λ (r : Page). r.refusal) (3 when false ∷ []) s (formed b) (sound t) _ _ refl (page-refusal (lengths_of b 0) lines offset limit t ∙ query-first s true t)),
      by-if (λ (r : Page). (r.refusal ≡ 0 → ⊥) → (r.total ≡ 0) × (r.lines ≡ [])) (not s && not (formed b)) _ _ (λ c n. (refl, refl)) (λ c. (page-refuses (lengths_of b 0) lines offset limit t).1),
    )
