-- Document 02 §4: allowance 0 keeps every earlier case, and an allowance is an earlier clock; what an open fixes. Assumes nothing.
use Rattle.std.specs.Prelude.{ℕ, ◌-◌, ◌≤◌, ◌≡◌, true, List}
use Rattle.std.proofs.Math.Option.{Option, none, some}
use Rattle.definition.specs.Types.{Kind, Dest, with_idle}
use Rattle.definition.specs.Calls.{Lengths, clock_ok, Request, acknowledge, pulling, timed_out, prefetching, Call, enqueuing, joining, leaving, asking, unmarking, releasing, sweeping, clearing, adding, removing, testing, forgetting, discarding, missing, Result, call}
use Rattle.definition.specs.Words.{at, kind_of, share_of, step}
use Rattle.definition.specs.Layout.{Buffers, view, buffer_step}
use Rattle.definition.specs.Histories.{call_clock}
use Rattle.earlier.specs.Plain.{plain_call}

-- with allowance 0 every call, refused or not, is the call without an allowance: refusal, answer, events and state
abbrev pub AsWithout : Type 0
AsWithout = (lent : Lengths) (c : Call) (t : Dest) → t.allowance ≡ 0 → call lent c t ≡ plain_call lent c t

-- and no call changes the allowance, so it is 0 from an open with 0 to the next open
abbrev pub AllowanceStays : Type 0
AllowanceStays = (lent : Lengths) (c : Call) (t : Dest) → (call lent c t).dest.allowance ≡ t.allowance

-- ---- document 02 §4: a call of clock c, with allowance a, is the call without an allowance of clock c less a

-- the call with its clock less a, or 0 where that is below 0
abbrev pub asked_less : ℕ → Request → Request
asked_less a (acknowledge k now) = acknowledge k (now - a)
asked_less a (pulling timeout now) = pulling timeout (now - a)
asked_less a (timed_out generation) = timed_out generation
asked_less a (prefetching p now) = prefetching p (now - a)

abbrev pub at_less : ℕ → Call → Call
at_less a (enqueuing e now) = enqueuing e (now - a)
at_less a (joining p now) = joining p (now - a)
at_less a (leaving i last now) = leaving i last (now - a)
at_less a (asking i q) = asking i (asked_less a q)
at_less a (unmarking i) = unmarking i
at_less a (releasing i now) = releasing i (now - a)
at_less a (sweeping now most) = sweeping (now - a) most
at_less a clearing = clearing
at_less a (adding i) = adding i
at_less a (removing i now) = removing i (now - a)
at_less a (testing i q) = testing i q
at_less a (forgetting conn) = forgetting conn
at_less a discarding = discarding
at_less a missing = missing

-- the idle mark that a call of clock now leaves, by what it was and what the call at the earlier clock leaves: a new mark is the call's own clock
abbrev pub marked_by : ℕ → Option ℕ → Option ℕ → Option ℕ
marked_by now none none = none
marked_by now none (some k) = some now
marked_by now (some m) o = o

-- what the call of clock now got on t beside what the call at the earlier clock got: the idle mark apart, all is the same
pub record Beside (now : ℕ) (t : Dest) (r p : Result) : Type 0 where
  pub refusal : r.refusal ≡ p.refusal
  pub answer : r.answer ≡ p.answer
  pub events : r.events ≡ p.events
  pub dest : with_idle none r.dest ≡ with_idle none p.dest
  pub idle : r.dest.idle ≡ marked_by now t.idle p.dest.idle

-- of every call, refused or not, whose clock is in its range
abbrev pub AsEarlier : Type 0
AsEarlier = (lent : Lengths) (c : Call) (t : Dest) → clock_ok (call_clock c) ≡ true → Beside (call_clock c) t (call lent c t) (plain_call lent (at_less t.allowance c) t)

-- ---- document 02 §4 and §11: what an open fixes

pub record Settings : Type 0 where
  pub kind : Kind
  pub topic_limit : ℕ
  pub call_limit : ℕ
  pub allowance : ℕ
  pub share : ℕ

abbrev pub settings : Dest → Settings
settings t = record { kind = t.kind; topic_limit = t.topic_limit; call_limit = t.call_limit; allowance = t.allowance; share = t.share }

-- as its words say, where 0 stands for a share of 512
abbrev pub OpenSettings : Type 0
OpenSettings = (lent : Lengths) (words : List ℕ) (t : Dest) → (step lent 0 words t).refusal ≡ 0 →
    settings (step lent 0 words t).dest ≡ record { kind = kind_of (at 0 words); topic_limit = at 1 words; call_limit = at 2 words; allowance = at 4 words; share = share_of (at 5 words) }

-- no other call changes any of these, refused or not
abbrev pub SettingsStay : Type 0
SettingsStay = (lent : Lengths) (c : Call) (t : Dest) → settings (call lent c t).dest ≡ settings t

abbrev pub StepSettingsStay : Type 0
StepSettingsStay = (lent : Lengths) (code : ℕ) (words : List ℕ) (t : Dest) → 1 ≤ code → settings (step lent code words t).dest ≡ settings t

abbrev pub BufferSettingsStay : Type 0
BufferSettingsStay = (b : Buffers) (events code : ℕ) (words : List ℕ) → 1 ≤ code → settings (buffer_step b events code words).dest ≡ settings (view b)
