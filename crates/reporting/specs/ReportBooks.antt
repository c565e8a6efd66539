-- What a report keeps along the calls of a file are the books of the account. Assumes nothing.
use Rattle.std.specs.Prelude.{ℕ, min, ◌≡◌, true, List, [], ◌∷◌, ◌++◌, map, eqb, length}
use Rattle.stats.specs.Counted.{top}
use Rattle.definition.specs.Base.{whether◌then◌else◌, tally}
use Rattle.definition.specs.Types.{queue}
use Rattle.definition.specs.Layout.{zero_dest}
use Rattle.definition.specs.Orders.{Lent, result}
use Rattle.fates.specs.Account.{Account}
use Rattle.fates.specs.Report.{Ledger, report, Fitting}
use Rattle.fates.specs.Blocks.{Block}
use Rattle.fates.specs.Books.{Books, along, books_of}
use Rattle.calls.specs.declared.Call.{Call}
use Rattle.callfile.specs.Blocks.{calls_in}
use Rattle.callfile.specs.Cutting.{cut_blocks, along_blocks}
use Rattle.report.specs.Report.{is_at_place}
use Rattle.reportlines.specs.declared.Gone.{Gone}
use Rattle.running.specs.Running.{block_calls, each_call}
use Rattle.running.specs.Files.{work_block, run_lengths}
use Rattle.reporting.specs.Reporting.{Noting, held_of, report_call}
use Rattle.reporting.specs.ReportFiles.{zero_noting}

-- ---- the books

-- a call, with the lengths of the buffers that a report lends
abbrev pub lent_call : Call → Lent
lent_call c = record { code = c.code; words = c.words; lengths = run_lengths }

-- how many of these blocks say a place, up to the largest word
abbrev pub up_to : ℕ → List Block → ℕ
up_to place bs = min (tally (is_at_place place) bs) top

abbrev pub gone_to : List Block → Gone
gone_to bs = record { dequeued = up_to 3 bs; expired = up_to 4 bs; discarded = up_to 5 bs; dead_lettered = up_to 6 bs; cleared = up_to 7 bs }

-- the same destination, the same blocks held, and of those that left how many went to each place
pub record Keeps (s : Noting) (b : Books) : Type 0 where
  pub dest : s.lent.dest ≡ b.dest
  pub held : held_of s ≡ b.held
  pub gone : s.kept.gone ≡ gone_to b.left

-- before any open
abbrev pub zero_books : Books
zero_books = record { dest = zero_dest; held = []; left = [] }

-- ---- along a file

-- the calls of its blocks, up to the first bad one
unfoldable pub read_calls : List (List ℕ) → List Call
read_calls [] = []
read_calls (b ∷ bs) = whether eqb (calls_in b (length b)) 0 then [] else block_calls 0 (calls_in b (length b)) b ++ read_calls bs

abbrev pub file_calls : List ℕ → List Call
file_calls bytes = read_calls (cut_blocks bytes)

-- what a report keeps at the end of a file, of which `report_file` prints the last lines
abbrev pub kept_at_end : List ℕ → Noting
kept_at_end bytes = (along_blocks (work_block (report_call run_lengths)) (cut_blocks bytes) 0 (record { index = 0; lent = zero_noting })).state.lent

-- ---- the claims

-- of any calls, from any state whose counts fit and whose books are these
abbrev pub CallsKeepBooks : Type 0
CallsKeepBooks = (calls : List Call) (index : ℕ) (s : Noting) (b : Books) → s.lent.formed ≡ true → Keeps s b → Keeps (each_call (report_call run_lengths) calls index s).lent (along (map lent_call calls) b)

-- of a file, from zeros on, whatever calls come before the first open, and whatever topics between
abbrev pub FileKeepsBooks : Type 0
FileKeepsBooks = (bytes : List ℕ) → Keeps (kept_at_end bytes) (along (map lent_call (file_calls bytes)) zero_books)

-- so from its latest accepted open of a queue on they are those of the report, and that is an account
abbrev pub FileKeepsAccount : Type 0
FileKeepsAccount =
    (bytes : List ℕ) (before after : List Call) (c : Call) → file_calls bytes ≡ before ++ c ∷ after → c.code ≡ 0
    → let u = result (lent_call c) (along (map lent_call before) zero_books).dest in u.refusal ≡ 0 → u.dest.kind ≡ queue
    → let g : Ledger = record { accepted = []; gone = []; dest = u.dest } in Fitting (map lent_call after) g
    → let r = report (map lent_call after) g in Keeps (kept_at_end bytes) (books_of r) × Account r.accepted r.gone r.dest
