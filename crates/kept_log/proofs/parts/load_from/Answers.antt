use Rattle.std.proofs.Common.{rules, subst, ◌∙◌}
use Rattle.kept_log.specs.Parts.{GivesUp, Reads}
use Rattle.kept_log.specs.Shown.{Shown}
use Rattle.kept_log.proofs.Seen.{fails_from_front, found_from_front, head_bytes, head_from_front}
use Rattle.kept_log.proofs.parts.load_from.Goals as goal

pub returns-in_err-head-clause-fault : goal.returns-in_err-head-clause-fault
returns-in_err-head-clause-fault g c =
    let left = g.S.Source.left in
    let before = c.args.source.now in
    let then = c.read_more.new.source in
    let read : Reads (left before) (left then) c.args.front.items c.read_more.new.self =
    subst (λ (window : Shown). Reads (left before) (left then) window.bytes c.read_more.new.self) c.from_vec-window.ensures c.in_ok-read_more.ensures.read in
    let told : GivesUp c.args.front.items (left before) (g.S.Source.is_there before) (g.S.Source.can_fail before) c.in_err-head.field-0.0 =
    head_from_front c.args.front.items (left before) (left then) c.read_more.new.self (g.S.Source.is_there then) (g.S.Source.is_there before)
    (g.S.Source.can_fail then) (g.S.Source.can_fail before) c.in_err-head.field-0.0 c.read_more.ensures.stays c.read_more.ensures.same read
    c.in_err-head.ensures.fault in
    search (rules, told)

pub records-requires-clause-are : goal.records-requires-clause-are
records-requires-clause-are g c =
    head_bytes c.read_more.new.self.bytes (g.S.Source.left c.read_more.new.source) (g.S.Source.left c.head_from.new.source) c.in_ok-head.head.tags c.in_ok-head.head.units.items
    c.in_ok-head.head.len c.in_ok-head.head.sum c.head_from.new.window c.in_ok-head.ensures.head

pub returns-clause-found : goal.returns-clause-found
returns-clause-found g c =
    let left = g.S.Source.left in
    let before = c.args.source.now in
    let then = c.read_more.new.source in
    let read : Reads (left before) (left then) c.args.front.items c.read_more.new.self =
    subst (λ (window : Shown). Reads (left before) (left then) window.bytes c.read_more.new.self) c.from_vec-window.ensures c.in_ok-read_more.ensures.read in
    found_from_front c.args.wanted c.records.result c.args.front.items (left before) (left then) (left c.head_from.new.source) c.read_more.new.self
    c.in_ok-head.head.tags c.in_ok-head.head.units.items c.in_ok-head.head.len c.in_ok-head.head.sum c.head_from.new.window read c.in_ok-head.ensures.head c.records.ensures.found

pub returns-clause-fault : goal.returns-clause-fault
returns-clause-fault g c =
    let left = g.S.Source.left in
    let before = c.args.source.now in
    let then = c.read_more.new.source in
    let last = c.head_from.new.source in
    let read : Reads (left before) (left then) c.args.front.items c.read_more.new.self =
    subst (λ (window : Shown). Reads (left before) (left then) window.bytes c.read_more.new.self) c.from_vec-window.ensures c.in_ok-read_more.ensures.read in
    fails_from_front c.records.result c.args.front.items (left before) (left then) (left last) c.read_more.new.self c.in_ok-head.head.tags c.in_ok-head.head.units.items
    c.in_ok-head.head.len c.in_ok-head.head.sum c.head_from.new.window (g.S.Source.is_there last) (g.S.Source.is_there before) (g.S.Source.can_fail last)
    (g.S.Source.can_fail before) (c.head_from.ensures.stays ∙ c.read_more.ensures.stays) (c.head_from.ensures.same ∙ c.read_more.ensures.same) read
    c.in_ok-head.ensures.head c.records.ensures.fault
