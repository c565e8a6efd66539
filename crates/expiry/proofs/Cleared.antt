-- Every entry dropped: what the tables then hold, and how many there were. Assumes nothing.
use mathlib.Core.Path.{◌≡◌, refl, sym, ap, ap₂, ◌∙◌}
use mathlib.Core.Bool.{Bool, true, false}
use mathlib.Core.List.{List, append-nil, map}
use Prim.Native.Nat.{ℕ, ◌+◌, ◌≤◌, min}
use native.Mathlib.Omega.{arith}
use lib.ListN.{length, take, drop, length-map, length-drop}
use lib.Seq.{length-take-le}
use Rattle.definition.specs.Base.{whether◌then◌else◌}
use Rattle.definition.specs.Types.{Id, Audit, Dest}
use Rattle.definition.specs.Types as Def
use Rattle.definition.specs.Destination as Destination
use Rattle.definition.specs.Destination.{clear, held_rows}
use Rattle.definition.specs.Layout.{Row, held_at, subs_at, sub_rows, subs_strict}
use Rattle.entry.specs.Entry.{entry_of}
use Rattle.consumers.specs.Table.{on_first, cleared_row, kept_rows}
use Rattle.consumers.proofs.Laws.{on-first, on-length, clear-rows, clear_first, held-subs, kept-few}
use Rattle.consumers.proofs.Strict.{strict-cleared, tables-strict, strict-tables}
use Rattle.consumers.proofs.Lists.{on-past}
use Rattle.state.specs.declared.Head.{Head}
use Rattle.state.specs.Answers as State
use Rattle.state.specs.State.{head_view, kind_by, refused_as, done_as}
use Rattle.state.specs.Fits.{Fits, fits}
use Rattle.state.specs.Leaves.{Leaves, LeavesIf, Room}
use Rattle.state.proofs.Leaves.{when-leaves, unless-touched}
use Rattle.state.proofs.Fitting.{fits-facts}
use Rattle.state.proofs.View.{is-queue}
use Rattle.expiry.specs.Expiry.{emptied_head, clear_out, SweepAnswers}

-- a test has failed
pub refused : (b : Bool) → b ≡ false → (also : Type 0) (f : Dest → Destination.Out) (g : Dest → Destination.Answer) (d : Head) (subs rows events : List Row) (r : State.Replied) → r ≡ refused_as 2 d
    → LeavesIf b also f d r.head subs rows events subs rows events × SweepAnswers b g d subs rows r
refused b h also f g d subs rows events r e = (
  unless-touched b also f d r.head subs rows events subs rows events h (record { same_head = ap (λ (y : State.Replied). y.head) e; same-subs = refl; same_rows = refl; same-events = refl }),
  record {
    refusal = ap (λ (y : State.Replied). y.refusal) e ∙ sym (ap (λ (y : Bool). whether◌then◌else◌ {A = ℕ} y 0 2) h);
    answer = λ ps qs _. ap (λ (y : State.Replied). y.answer) e ∙ sym (ap (λ (y : Bool). whether◌then◌else◌ {A = ℕ} y (g (head_view d subs rows ps qs)).answer 0) h);
  },
)

module _ (d : Head) (subs rows events : List Row) (t : fits subs d (length rows) (length events) ≡ true) where
  abbrev ws : List Row
  ws = take d.consumers subs

  abbrev subs' : List Row
  subs' = on_first cleared_row d.consumers subs

  facts : Fits subs d (length rows) (length events)
  facts = fits-facts subs d (length rows) (length events) t

  no_rows : sub_rows (take d.consumers subs') ≡ 0
  no_rows = ap sub_rows (on-first cleared_row d.consumers subs) ∙ clear-rows ws

  cleared-view : (ps : List Id) (qs : List Audit) → head_view (emptied_head d) subs' rows ps qs ≡ (clear (head_view d subs rows ps qs)).dest
  unfolding head_view clear
  cleared-view ps qs = ap (λ (l : List Def.Sub). Def.with_subs l (head_view (emptied_head d) subs' rows ps qs)) (clear_first (kind_by d.queue) d.consumers subs rows rows)

  leaves-cleared : Leaves clear_out d (emptied_head d) subs rows events subs' rows events
  leaves-cleared = record {
    view = λ ps qs _. cleared-view ps qs;
    sent = λ ps qs _. sym (append-nil (take d.events events));
    later = refl;
    more = omega arith;
    producers = refl;
    audits = refl;
    queue = refl;
    allowance = refl;
    share = refl;
    consumers = facts.consumers;
    used = omega arith;
    rows-used = omega (arith, no_rows);
    strict = λ s.
        let b = tables-strict (d.reserved + d.waiting) ws rows s in
        strict-tables 0 (take d.consumers subs') rows (record { subs = ap (λ (l : List Row). subs_strict l rows) (on-first cleared_row d.consumers subs) ∙ strict-cleared ws rows rows b.subs; others = refl });
    subs-past = on-past cleared_row d.consumers 32 subs facts.consumers;
    rows-past = refl;
    subs-length = on-length cleared_row d.consumers subs;
    rows-length = refl;
    events-length = refl;
  }

  -- no more of the consumers' rows than there are
  held-few : kept_rows d.queue ws ≤ 512
  held-few = omega (arith, kept-few d.queue ws, facts.rows-used, facts.used)

  abbrev total : ℕ
  total = d.waiting + d.reserved + min 513 (kept_rows d.queue ws)

  answered : (ps : List Id) (qs : List Audit) → total ≡ (clear (head_view d subs rows ps qs)).answer
  unfolding head_view clear
  answered ps qs =
      let n : ℕ = sub_rows ws in
      let others : List Row = drop n rows in
      let u : n + (d.reserved + d.waiting) ≤ length rows = omega (arith, facts.rows-used, facts.used, facts.rows_long) in
      let a : length (map held_at (take d.reserved others)) ≡ d.reserved = length-map (take d.reserved others) held_at ∙ length-take-le d.reserved others (omega (arith, u, length-drop n rows)) in
      let w : length (map entry_of (take d.waiting (drop d.reserved others))) ≡ d.waiting =
      length-map (take d.waiting (drop d.reserved others)) entry_of ∙ length-take-le d.waiting (drop d.reserved others) (omega (arith, u, length-drop n rows, length-drop d.reserved others)) in
      let h : held_rows (subs_at (kind_by d.queue) ws rows) ≡ kept_rows d.queue ws =
      held-subs (kind_by d.queue) ws rows (omega (arith, u)) ∙ ap (λ (b : Bool). kept_rows b ws) (is-queue d.queue) in
      let m : min 513 (kept_rows d.queue ws) ≡ kept_rows d.queue ws = omega (arith, held-few) in
      ap (λ (x : ℕ). d.waiting + d.reserved + x) (m ∙ sym h) ∙ ap₂ (λ (x y : ℕ). x + y + held_rows (subs_at (kind_by d.queue) ws rows)) (sym w) (sym a)

  -- what `clear` leaves and answers
  pub clears : (subs'' : List Row) (r : State.Replied) → subs'' ≡ subs' → r ≡ done_as total (emptied_head d)
      → LeavesIf (fits subs d (length rows) (length events)) (Room d r.head) clear_out d r.head subs rows events subs'' rows events × SweepAnswers (fits subs d (length rows) (length events)) clear d subs rows r
  clears subs'' r es er = rw (es, er) (
    when-leaves (fits subs d (length rows) (length events)) _ clear_out d (emptied_head d) subs rows events subs' rows events t (leaves-cleared, record { room = omega (arith, facts.sent); as_many = refl }),
    record {
      refusal = sym (ap (λ (y : Bool). whether◌then◌else◌ {A = ℕ} y 0 2) t);
      answer = λ ps qs _. answered ps qs ∙ sym (ap (λ (y : Bool). whether◌then◌else◌ {A = ℕ} y (clear (head_view d subs rows ps qs)).answer 0) t);
    },
  )
