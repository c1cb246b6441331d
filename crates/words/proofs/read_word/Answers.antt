-- Each list has the word where it stands; the row that is required holds the index.
use native.Mathlib.Omega.{arith}
use Rattle.lent.specs.Lists.{read}
use Rattle.words.proofs.Homes.{stands, found}
use Rattle.words.proofs.read_word.Goals as goal

pub overflow_mul-result-in-Nodes : goal.overflow_mul-result-in-Nodes
overflow_mul-result-in-Nodes c = omega (arith, stands _ _ _ c.in-Nodes.ensures c.requires)

pub offset_bounds-l-k : goal.offset_bounds-l-k
offset_bounds-l-k c = omega (arith, stands _ _ _ c.in-Nodes.ensures c.requires)

pub returns-in-Globals : goal.returns-in-Globals
returns-in-Globals c = found _ (read c.args.l) _ c.in-Globals.ensures

pub returns-in-Participants : goal.returns-in-Participants
returns-in-Participants c = found _ (read c.args.l) _ c.in-Participants.ensures

pub returns-in-Nodes : goal.returns-in-Nodes
returns-in-Nodes c = found _ (read c.args.l) _ c.in-Nodes.ensures
