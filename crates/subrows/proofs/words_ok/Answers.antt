use Rattle.subrows.proofs.Rows.{array-words, id-fits}
use Rattle.subrows.proofs.words_ok.Goals as goal

pub returns : goal.returns
returns c = record { value = rw c.sub_marks_ok-marks.ensures; w_value = id-fits c.args.w (array-words c.args.w _ c.well_formed.0.1.1 0) }
