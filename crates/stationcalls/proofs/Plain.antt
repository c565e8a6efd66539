-- A destination's call that writes straight into the station's list, and then its events are named. Assumes nothing.
use mathlib.Core.Path.{◌≡◌, refl, sym, ap, ◌∙◌, subst}
use mathlib.Core.Bool.{Bool, not, ◌&&◌, ◌||◌}
use mathlib.Core.List.{List, [], ◌∷◌, map}
use mathlib.Core.Option.{Option, none, some}
use Prim.Native.Nat.{ℕ, zero, suc, ◌+◌, ◌≤◌}
use native.Mathlib.Nat.{zero-add}
use native.Mathlib.Omega.{arith}
use borrow.Author.Tests.{le-ltb}
use lib.Dec.{eqb}
use lib.ListN.{length, take, drop, length-map}
use lib.Seq.{paste, paste-zero, length-paste, take-paste, drop-paste}
use Rattle.definition.specs.Base.{whether◌then◌else◌}
use Rattle.definition.specs.Types.{Dest}
use Rattle.definition.specs.Calls.{Lengths, state_short, short, sound, Result, refused, used, Call, arguments_ok, own_refusal, perform, refusal, call}
use Rattle.definition.specs.Words.{open_words, opened_by, decode, open_step, call_step, step}
use Rattle.definition.specs.Layout.{Row, Buffers, view, formed, event_words, lengths_of, buffer_step}
use Rattle.definition.proofs.Tests.{by-if}
use Rattle.definition.proofs.Lists.{map-take}
use Rattle.engine.specs.declared.Outcome.{Outcome}
use Rattle.definition_station.specs.Layout.{StationBuffers, part}
use Rattle.stationcalls.specs.Parts.{CalledAt}
use Rattle.stationcalls.specs.Run.{named}
use Rattle.stationcalls.specs.Plain.{NamedAt}
use Rattle.stationcalls.proofs.Cycle.{sent-words}

-- ---- a longer list of events changes nothing

refusal-same : (l m : Lengths) (c : Call) (t : Dest) → short l ≡ short m → refusal l c t ≡ refusal m c t
unfolding refusal
refusal-same l m c t e = ap (λ (s : Bool). whether◌then◌else◌ {A = ℕ} s 1 (whether not (sound t) then 2 else whether not (arguments_ok c) then 3 else whether eqb t.calls_used t.call_limit then 9 else own_refusal t c)) e

pub call_same : (l m : Lengths) (c : Call) (t : Dest) → short l ≡ short m → call l c t ≡ call m c t
unfolding call
call_same l m c t e =
    ap (λ (n : ℕ). whether◌then◌else◌ {A = Result} (eqb n 0) (record { refusal = 0; answer = (perform t c).answer; events = (perform t c).events; dest = used (perform t c).dest }) (refused n t)) (refusal-same l m c t e)

coded-same : (l m : Lengths) (t : Dest) (o : Option Call) → short l ≡ short m → call_step l t o ≡ call_step m t o
unfolding call_step
coded-same l m t none e = ap (λ (s : Bool). refused (whether s then 1 else whether sound t then 3 else 2) t) e
coded-same l m t (some c) e = call_same l m c t e

open-same : (l m : Lengths) (ws : List ℕ) (t : Dest) → short l ≡ short m → open_step l ws t ≡ open_step m ws t
unfolding open_step
open-same l m ws t e = ap (λ (s : Bool). whether◌then◌else◌ {A = Result} s (refused 1 t) (whether open_words ws then record { refusal = 0; answer = 0; events = []; dest = opened_by ws } else refused 3 t)) e

step_same : (l m : Lengths) (code : ℕ) (ws : List ℕ) (t : Dest) → short l ≡ short m → step l code ws t ≡ step m code ws t
unfolding step
step_same l m code ws t e =
    ap (λ (r : Result). whether◌then◌else◌ {A = Result} (eqb code 0) r (call_step l t (decode code ws))) (open-same l m ws t e)
    ∙ ap (λ (r : Result). whether◌then◌else◌ {A = Result} (eqb code 0) (open_step m ws t) r) (coded-same l m t (decode code ws) e)

pub short-same : (p : Buffers) (n : ℕ) → 545 ≤ n → short (lengths_of p n) ≡ short (lengths_of p 545)
unfolding short state_short
short-same p n h = ap (λ (x : Bool). state_short (lengths_of p 545) || x) (le-ltb n 545 h)

pub longer-same : (p : Buffers) (n code : ℕ) (ws : List ℕ) → 545 ≤ n → buffer_step p n code ws ≡ buffer_step p 545 code ws
unfolding buffer_step
longer-same p n code ws h =
    ap (λ (s : Bool). whether◌then◌else◌ {A = Result} (not s && (not (eqb code 0) && not (formed p))) (refused 2 (view p)) (step (lengths_of p n) code ws (view p))) (short-same p n h)
    ∙ ap (λ (r : Result). whether◌then◌else◌ {A = Result} (not (short (lengths_of p 545)) && (not (eqb code 0) && not (formed p))) (refused 2 (view p)) r) (step_same (lengths_of p n) (lengths_of p 545) code ws (view p) (short-same p n h))

-- ---- a refused call sends nothing

abbrev Silent : Result → Type 0
Silent r = (r.refusal ≡ 0 → ⊥) → r.events ≡ []

call-silent : (l : Lengths) (c : Call) (t : Dest) → Silent (call l c t)
unfolding call
call-silent l c t = by-if Silent (eqb (refusal l c t) 0) _ _ (λ e n. absurd (n refl)) (λ e n. refl)

coded-silent : (l : Lengths) (t : Dest) (o : Option Call) → Silent (call_step l t o)
unfolding call_step
coded-silent l t none n = refl
coded-silent l t (some c) n = call-silent l c t n

step-silent : (l : Lengths) (code : ℕ) (ws : List ℕ) (t : Dest) → Silent (step l code ws t)
unfolding step open_step
step-silent l code ws t = by-if Silent (eqb code 0) _ _
    (λ e. by-if Silent (short l) _ _ (λ c n. refl) (λ c. by-if Silent (open_words ws) _ _ (λ d n. absurd (n refl)) (λ d n. refl)))
    (λ e. coded-silent l t (decode code ws))

pub buffer-silent : (p : Buffers) (n code : ℕ) (ws : List ℕ) → Silent (buffer_step p n code ws)
unfolding buffer_step
buffer-silent p n code ws = by-if Silent (not (short (lengths_of p n)) && (not (eqb code 0) && not (formed p))) _ _ (λ e h. refl) (λ e. step-silent (lengths_of p n) code ws (view p))

-- ---- the call, named

within-list : (n : ℕ) (l : List Row) → length (take n l) ≡ n → n ≤ length l
within-list zero l e = omega (arith)
within-list (suc n) [] e = omega (arith, e)
within-list (suc n) (x ∷ l) e = omega (arith, within-list n l (less (length (take n l)) n e))
  where
    less : (a c : ℕ) → suc a ≡ suc c → a ≡ c
    less a c e = omega (arith, e)

module _ (k code : ℕ) (ws : List ℕ) (b b' : StationBuffers) (events mid : List Row) (r : Outcome) (long : 545 ≤ length events)
    (c₀ : CalledAt (buffer_step (part k b) (length events) code ws) k b b' events mid r) where
  abbrev q : Result
  q = buffer_step (part k b) 545 code ws

  c : CalledAt q k b b' events mid r
  c = subst (λ (x : Result). CalledAt x k b b' events mid r) (longer-same (part k b) (length events) code ws long) c₀

  pub sent-fits : r.events ≤ length mid
  sent-fits = within-list r.events mid (ap length c.here.sent ∙ length-map q.events event_words ∙ sym c.here.count)

  pub named-at : (events' : List Row) → events' ≡ paste mid 0 (map (named k) mid) r.events → NamedAt q k b b' events events' r
  named-at events' e = record {
    refusal = c.here.refusal;
    answer = c.here.answer;
    count = c.here.count;
    sent = ap (λ (n : ℕ). take n events') (sym (zero-add r.events)) ∙ ap (take (0 + r.events)) e ∙ take-paste mid 0 s r.events front fits ∙ map-take (named k) r.events mid ∙ ap (map (named k)) c.here.sent ∙ sent-words k q.events;
    later = ap (λ (n : ℕ). drop n events') (sym (zero-add r.events)) ∙ ap (drop (0 + r.events)) e ∙ drop-paste mid 0 s r.events front fits ∙ ap (λ (n : ℕ). drop n mid) (zero-add r.events) ∙ c.here.later;
    events-length = ap length e ∙ length-paste mid 0 s r.events room fits ∙ c.here.past.events-length;
    shows = c.here.shows;
    leaves-sound = c.here.leaves-sound;
    kept = λ z. ((c.here.kept z).0, ap (λ (l : List Row). l) e ∙ ap (paste mid 0 s) (nothing z) ∙ sym (paste-zero mid 0 s) ∙ (c.here.kept z).1);
    elsewhere = c.elsewhere;
    past = c.past;
  }
    where
      s : List Row
      s = map (named k) mid

      front : 0 ≤ length mid
      front = omega (arith)

      fits : r.events ≤ length s
      fits = omega (arith, sent-fits, length-map mid (named k))

      room : 0 + r.events ≤ length mid
      room = omega (arith, sent-fits)

      nothing : (q.refusal ≡ 0 → ⊥) → r.events ≡ 0
      nothing z = c.here.count ∙ ap length (buffer-silent (part k b) 545 code ws z)
