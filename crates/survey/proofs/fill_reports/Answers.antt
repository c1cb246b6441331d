-- What is stored is the next entry of the table.
use Rattle.std.proofs.Common.{◌≡◌, ℕ, ◌+◌, ◌<◌, List, ◌++◌, length, set, take, drop, add-one}
use Rattle.definition.specs.declared.Report.{Report}
use Rattle.survey.specs.Surveys.{report_in, tabulate}
use Rattle.survey.proofs.Tab.{tab_none, tab_more}
use Rattle.survey.proofs.fill_reports.Goals as goal

pub loop-p-init : goal.loop-p-init
loop-p-init c = tab_none (report_in c.args.l.globals.now c.args.l.participants.now) (take c.args.l.n c.args.list.now)

-- storing the report of participant k into a list that has those of the k before it
stored : (f : ℕ → Report) (ys l : List Report) (r : Report) (k : ℕ) → l ≡ tabulate f k ++ drop k ys → r ≡ f k → k < length ys
    → set l k r ≡ tabulate f (k + 1) ++ drop (k + 1) ys
stored f ys l r k was is h = rw (was, is, add-one) (tab_more f ys k h)

pub loop-p-preserved : goal.loop-p-preserved
loop-p-preserved c =
    let a = c.args in
    let l = c.loop-p in
    let places = take a.l.n a.list.now in
    stored (report_in a.l.globals.now a.l.participants.now) places l.report-items c.report_of.result l.p l.invariant c.report_of.ensures c.loop-p-test.true
