-- An entry stored on a queue: what the rows and the cursors come to is what the definition says. Assumes nothing.
use mathlib.Core.Path.{◌≡◌, refl, sym, ap, ap₂, ◌∙◌}
use mathlib.Core.Bool.{true}
use mathlib.Core.List.{List, [], ◌∷◌, ◌++◌, append_assoc, append-nil, map}
use Prim.Native.Nat.{ℕ, suc, ◌+◌, ◌-◌, ◌≤◌}
use native.Mathlib.Omega.{arith}
use lib.ListN.{length, take, drop, get_or, length-append}
use lib.Seq.{take_at, drop_at, drop-cons, take-add}
use Rattle.entry.specs.Entry.{entry_of, row_of}
use Rattle.definition.specs.Base.{all}
use Rattle.definition.specs.Types.{Id, Entry, Sub, Audit, with_pending}
use Rattle.definition.specs.Destination.{insert, hold_back}
use Rattle.definition.specs.Layout.{Row, subs_at, sub_rows, entry_strict, subs_strict}
use Rattle.definition.proofs.Lists.{all_append}
use Rattle.table.specs.Table.{place_from, place_of, insert_row}
use Rattle.table.proofs.Search.{place-from-within}
use Rattle.table.proofs.Laws.{insert-length, insert-after}
use Rattle.consumers.specs.Table.{on_first, held_back_row}
use Rattle.consumers.proofs.Laws.{on-first, on-length, hold-back-rows, hold-back-first}
use Rattle.consumers.proofs.Strict.{all_left, all_right, strict-before, strict-front, tables-strict, strict-tables, strict-held-back}
use Rattle.consumers.proofs.Lists.{on-past}
use Rattle.state.specs.declared.Head.{Head}
use Rattle.state.specs.State.{head_view, kind_by, strict_tables, first_waiting}
use Rattle.engine.specs.Storing.{rows_needed, queued_head, waits_counted}
use Rattle.engine.specs.Arrivals.{Arrives, Arrived}
use Rattle.engine.proofs.Insert.{insert-placed}
use Rattle.engine.proofs.Used.{own_rows, reserved_rows, waiting_rows, absent-parts}
use Rattle.engine.proofs.RowParts.{with_row, with-row-length, own-row-strict, with-row-strict, put-in, made, view-parts, rows-in-parts, own-length, reserved-length, waiting-length}

module _ (e : Entry) (d : Head) (subs rows : List Row) (a : Arrives e d subs rows) (q : d.queue ≡ true) where
  abbrev row : Row
  row = row_of e 0 0 0

  abbrev subs' : List Row
  subs' = on_first (held_back_row e.seq) d.consumers subs

  abbrev at : ℕ
  at = place_of (first_waiting d) d.used e.seq rows

  abbrev rows' : List Row
  rows' = insert_row at d.used row rows

  needs-one : d.events + d.used + 1 ≤ 512
  needs-one = let n : rows_needed e d subs ≡ 1 = rw q in omega (arith, n, a.room)

  within : d.used ≤ length rows
  within = omega (arith, needs-one, a.rows_long)

  abbrev own : List Row
  own = own_rows d subs rows

  abbrev reserved : List Row
  reserved = reserved_rows d subs rows

  abbrev waiting : List Row
  waiting = waiting_rows d subs rows

  abbrev n : ℕ
  n = sub_rows (take d.consumers subs)

  abbrev k : ℕ
  k = place_from (first_waiting d) e.seq waiting - first_waiting d

  new_row : Row
  new_row = get_or rows d.used []

  abbrev free : List Row
  free = drop (suc d.used) rows

  front_length : length (own ++ reserved) ≡ first_waiting d
  front_length =
      let x = own-length d subs rows a.rows-used within in
      let y = reserved-length d subs rows a.rows-used within in
      let z = a.rows-used in
      length-append own reserved ∙ omega arith

  rows_are : rows ≡ (own ++ reserved) ++ (waiting ++ new_row ∷ free)
  unfolding new_row
  rows_are =
      rows-in-parts d subs rows a.rows-used within
      ∙ ap (λ (x : List Row). own ++ (reserved ++ (waiting ++ x))) (drop-cons rows d.used [] (omega (arith, needs-one, a.rows_long)))
      ∙ sym (append_assoc own reserved (waiting ++ new_row ∷ free))

  -- the row stands among the waiting ones
  rows-come : rows' ≡ own ++ (reserved ++ (with_row k row waiting ++ free))
  rows-come =
      let f : ℕ = first_waiting d in
      let l = waiting-length d subs rows a.rows-used within in
      let z = a.rows-used in
      ap (λ (x : List Row). insert_row (place_of f d.used e.seq x) d.used row x) rows_are
      ∙ put-in f d.used d.used e.seq row new_row (own ++ reserved) waiting [] free front_length (omega arith) (omega arith)
      ∙ append_assoc own reserved (with_row k row waiting ++ free)

  inserted : map entry_of (with_row k row waiting) ≡ insert e (map entry_of waiting)
  inserted =
      let w = place-from-within (first_waiting d) e.seq waiting in
      insert-placed (first_waiting d) k waiting row e a.row (absent-parts d subs rows a.rows-used e.seq a.absent).2 (omega arith)

  own-rows : n ≡ sub_rows (take d.consumers subs')
  own-rows = sym (ap sub_rows (on-first (held_back_row e.seq) d.consumers subs) ∙ hold-back-rows e.seq (take d.consumers subs))

  view : (ps : List Id) (qs : List Audit) → head_view (queued_head d) subs' rows' ps qs ≡ waits_counted e (head_view d subs rows ps qs)
  view ps qs =
      let g : ℕ = d.waiting + 1 in
      let lo = own-length d subs rows a.rows-used within in
      let lr = reserved-length d subs rows a.rows-used within in
      let lw = waiting-length d subs rows a.rows-used within in
      let l : length (with_row k row waiting) ≡ d.waiting + 1 = with-row-length k row waiting ∙ ap (λ (x : ℕ). x + 1) lw in
      let new : head_view (queued_head d) subs' rows' ps qs ≡ made (queued_head d) (subs_at (kind_by d.queue) (take d.consumers subs') own) reserved (with_row k row waiting) ps qs =
      ap (λ (x : List Row). head_view (queued_head d) subs' x ps qs) rows-come ∙ view-parts (queued_head d) subs' own reserved (with_row k row waiting) free ps qs (lo ∙ own-rows) lr l in
      let old : head_view d subs rows ps qs ≡ made d (subs_at (kind_by d.queue) (take d.consumers subs) own) reserved waiting ps qs =
      ap (λ (x : List Row). head_view d subs x ps qs) (rows-in-parts d subs rows a.rows-used within) ∙ view-parts d subs own reserved waiting (drop d.used rows) ps qs lo lr lw in
      let mine : subs_at (kind_by d.queue) (take d.consumers subs') own ≡ map (hold_back e.seq) (subs_at (kind_by d.queue) (take d.consumers subs) own) =
      hold-back-first (kind_by d.queue) e.seq d.consumers subs own in
      new
      ∙ ap (λ (x : List Sub). made (queued_head d) x reserved (with_row k row waiting) ps qs) mine
      ∙ ap (λ (x : List Entry). with_pending x (made (queued_head d) (map (hold_back e.seq) (subs_at (kind_by d.queue) (take d.consumers subs) own)) reserved waiting ps qs)) inserted
      ∙ ap (waits_counted e) (sym old)

  -- strict words stay strict
  strict : strict_tables d subs rows ≡ true → strict_tables (queued_head d) subs' rows' ≡ true
  strict o =
      let ws : List Row = take d.consumers subs in
      let m : ℕ = d.reserved + (d.waiting + 1) in
      let new : List Row = with_row k row waiting in
      let t = tables-strict (d.reserved + d.waiting) ws rows o in
      let lo = own-length d subs rows a.rows-used within in
      let lr = reserved-length d subs rows a.rows-used within in
      let lw = waiting-length d subs rows a.rows-used within in
      let size : length (reserved ++ new) ≡ m = omega (arith, length-append reserved new, with-row-length k row waiting, lr, lw) in
      let were : all entry_strict (reserved ++ waiting) ≡ true = ap (all entry_strict) (sym (take-add d.reserved d.waiting (drop n rows))) ∙ t.others in
      let mine : subs_strict (take d.consumers subs') rows' ≡ true =
      ap (λ (x : List Row). subs_strict x rows') (on-first (held_back_row e.seq) d.consumers subs)
      ∙ strict-held-back e.seq ws rows'
      ∙ ap (subs_strict ws) rows-come
      ∙ strict-before ws own (reserved ++ (new ++ free)) (omega arith)
      ∙ strict-front ws n rows (omega arith)
      ∙ t.subs in
      let past : take m (drop (sub_rows (take d.consumers subs')) rows') ≡ reserved ++ new =
      ap₂ (λ (x : ℕ) (l : List Row). take m (drop x l)) (sym own-rows) rows-come
      ∙ ap (take m) (drop_at own (reserved ++ (new ++ free)) n lo ∙ sym (append_assoc reserved new free))
      ∙ take_at (reserved ++ new) free m size in
      strict-tables m (take d.consumers subs') rows' (record {
        subs = mine;
        others = ap (all entry_strict) past ∙ all_append entry_strict reserved new (all_left entry_strict reserved waiting were) (with-row-strict k row waiting (own-row-strict e a.row) (all_right entry_strict reserved waiting were));
      })

  pub queued-arrived : Arrived (waits_counted e) d (queued_head d) subs rows subs' rows'
  queued-arrived events = (
    record {
      view = λ ps qs _. view ps qs;
      sent = λ ps qs _. sym (append-nil (take d.events events));
      later = refl;
      more = omega arith;
      producers = refl;
      audits = refl;
      queue = refl;
      allowance = refl;
      share = refl;
      consumers = a.consumers;
      used = omega (arith, needs-one);
      rows-used = omega (arith, own-rows, a.rows-used);
      strict = strict;
      subs-past = on-past (held_back_row e.seq) d.consumers 32 subs a.consumers;
      rows-past = insert-after at d.used row rows 512 (omega (arith, needs-one));
      subs-length = on-length (held_back_row e.seq) d.consumers subs;
      rows-length = insert-length at d.used row rows;
      events-length = refl;
    },
    record { room = omega (arith, needs-one); as_many = refl },
  )
