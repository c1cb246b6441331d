-- The global words are started by their own function, and the other lists, which have the right lengths, hold
-- only zeros, as the definition's do (`participants-fresh` and its kin).
use mathlib.Core.Path.{◌∙◌}
use Rattle.definition.specs.Layout.{lent}
use Rattle.definition.proofs.Lists.{sized_is}
use Rattle.start.proofs.Laws.{participants-fresh, nodes-fresh, held-fresh, queued-fresh}
use Rattle.start.proofs.start.Goals as goal

pub start_globals-requires : goal.start_globals-requires
start_globals-requires c = (c.requires.has_node, (sized_is _ _ _ c.requires.sized_lists).globals)

pub returns-clause-started : goal.returns-clause-started
returns-clause-started c =
    let s = sized_is _ _ _ c.requires.sized_lists in
    let n = c.args.l.now.n in
    let m = c.args.l.now.m in
    let globals = c.start_globals.ensures in
    let participants = c.fill.ensures.after (λ y e. e) ∙ participants-fresh n m _ s.participants in
    let nodes = c.fill-2.ensures.after (λ y e. e) ∙ nodes-fresh n m _ s.nodes in
    let held = c.fill-3.ensures.after (λ y e. e) ∙ held-fresh n m _ s.held in
    let queued = c.fill-4.ensures.after (λ y e. e) ∙ queued-fresh n m _ s.queued in
    λ i. lent (globals i) (participants i) (nodes i) (held i) (queued i)
