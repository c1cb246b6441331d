-- The definition gives what document 01 worked by hand, and the rows from document 02: one statement over the whole table, by computation. Assumes nothing.
use mathlib.Core.Path.{◌≡◌, refl}
use mathlib.Core.List.{map}
use Rattle.epoch.specs.Epoch
use Rattle.epoch.specs.Distances
use Rattle.definition.specs.Base
use Rattle.definition.specs.Links
use Rattle.definition.specs.Bags
use Rattle.definition.specs.Tables
use Rattle.definition.specs.Flow
use Rattle.definition.specs.Rule
use Rattle.definition.specs.List
use Rattle.definition.specs.Queue
use Rattle.definition.specs.Internal
use Rattle.definition.specs.Codec
use Rattle.definition.specs.Step
use Rattle.definition.specs.Calls
use Rattle.definition.specs.Ranges
use Rattle.definition.specs.Public
use Rattle.definition.specs.Runs
use Rattle.definition.specs.Schedule
use Rattle.definition.specs.Worked

pub worked : map (λ (c : Worked.Case). Worked.reply c.asks) Worked.table ≡ map (λ (c : Worked.Case). c.gives) Worked.table
unfolding Epoch.starting Epoch.is_pinned Epoch.unpinned Epoch.pinned Epoch.successor Epoch.gap Epoch.signed Epoch.halved
    Epoch.wrapping_sub Distances.distances Base.branch Base.put Base.sum Base.count Base.all Base.least Base.listed Base.among Links.null Links.link
    Links.is_null Links.index Links.is_tagged Links.tagged Links.pointee Links.pointer Links.node_at Bags.max_objects Bags.places_left Bags.is_expired
    Bags.item_word Bags.item_of Bags.items Bags.moved Bags.tokens Bags.free_slots Bags.free_nodes Tables.read Tables.write Flow.on Flow.done
    Flow.also Flow.finalize Flow.collected Flow.collect_steps Flow.pops Flow.advanced Flow.walk Flow.waiting Flow.placed Flow.defer
    Flow.pushed Rule.asks Rule.follows Rule.agrees Rule.sees Rule.leaves Rule.exchanged Rule.made Rule.is_weak Rule.fails
    Rule.missed Rule.failed Rule.kind_number Rule.word_number Rule.word_index List.insert List.delete List.pred_word List.iterate Queue.seal_bag Queue.push Queue.pop Internal.pinnings_between_collect
    Internal.collects Internal.pin_counted Internal.pin_epoch Internal.pin_word Internal.unpin_word Internal.repin Internal.advance_epoch
    Internal.advance_word Internal.advance_store Internal.final_word Internal.rule Codec.owner_number Codec.pred_pointer Codec.then_code
    Codec.code_of Codec.record_of Codec.owner_of Codec.pred_of Codec.then_of Codec.place_of Codec.participant_of Codec.same_code Step.put_item
    Step.seal_into Step.in_bag Step.free_bag Step.settle Step.freed_by Step.answer_of Step.follow Step.rule_at Step.take_step Step.take_marked Step.access_at
    Calls.max_count Calls.max_token Calls.lacks Calls.count_full Calls.token_above Calls.held_already Calls.finalizes Calls.overflow Calls.pin_needs Calls.needs
    Calls.begins Calls.opens Ranges.max_participants Ranges.max_nodes Ranges.within_limits Ranges.bit_words Ranges.is_rest Ranges.slot_in
    Ranges.node_in Ranges.ptr_in Ranges.pred_in Ranges.cursor_in Ranges.pops_in Ranges.then_in Ranges.register_in Ranges.walk_in Ranges.pop_in
    Ranges.push_in Ranges.place_in Ranges.entry_pointer_in Ranges.head_pointer_in Ranges.node_pointer_in Ranges.end_pointer_in Ranges.item_in
    Ranges.bag_in Ranges.code_in Ranges.record_in Ranges.bits_in Ranges.shared_in Ranges.in_range Ranges.fresh Public.refusal Public.unless
    Public.takes_node Public.running Public.twice Public.new_participant Public.enrolled Public.damaged Public.absent Public.no_node Public.missing
    Public.call_checks Public.call Public.register_checks Public.register Public.step_checks Public.step Public.given Public.lending
    Public.start_lent Public.register_lent Public.call_lent Public.step_lent Runs.does Runs.run Schedule.token_in Schedule.action_of
    Schedule.whole Schedule.played Schedule.digits Schedule.decimal Schedule.answer_text Schedule.freed_text Schedule.line Schedule.lines
    Schedule.schedule Worked.noted Worked.begun Worked.stepped Worked.operated Worked.along Worked.shown Worked.from_start Worked.reply
    Worked.retires Worked.filling Worked.tokens_from Worked.repeated Worked.table
worked = refl
