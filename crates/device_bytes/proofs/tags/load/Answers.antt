use Rattle.std.proofs.Common.{◌≡◌, ℕ, List, None, Option, ◌∙◌}
use Rattle.uas_tasks.specs.Machine.{Machine}
use Rattle.machine_bytes.specs.Forms.{then_read}
use Rattle.machine_bytes.specs.Sparse.{end_read}
use Rattle.device_bytes.specs.Devices.{attentions_loaded, device_loaded, tags_loaded}
use Rattle.device_bytes.proofs.Loading.{end_loads, then_more, then_none}
use Rattle.device_bytes.proofs.tags.load.Goals as goal

-- what comes behind the attentions' end, and behind the attentions
abbrev third : Machine → List ℕ → Option Machine × List ℕ
third two text = then_read (tags_loaded two text) (λ (all : Machine) left. end_read all left)

abbrev second : Machine → List ℕ → Option Machine × List ℕ
second one text = then_read (end_read one text) (λ (two : Machine) left. third two left)

pub returns-in_err-load_attentions : goal.returns-in_err-load_attentions
unfolding device_loaded
returns-in_err-load_attentions c =
    let none : c.load_attentions.result ≡ None = cc in
    let stop : c.from_residual.result ≡ None = cc in
    then_none (attentions_loaded c.args.tasks.now c.args.reader.now) second c.load_attentions.result c.from_residual.result c.load_attentions.new.tasks
    c.load_attentions.new.tasks c.load_attentions.new.reader c.load_attentions.ensures none stop

pub returns-in_err-read_end : goal.returns-in_err-read_end
unfolding device_loaded
returns-in_err-read_end c =
    let first = then_more (attentions_loaded c.args.tasks.now c.args.reader.now) second c.load_attentions.result c.load_attentions.new.tasks
    c.load_attentions.new.reader c.load_attentions.ensures c.in_ok-load_attentions.was in
    let none : c.read_end.result ≡ None = cc in
    let stop : c.from_residual-in_err-read_end.result ≡ None = cc in
    rw first
    (then_none (end_read c.load_attentions.new.tasks c.load_attentions.new.reader) third c.read_end.result c.from_residual-in_err-read_end.result
    c.load_attentions.new.tasks c.load_attentions.new.tasks c.read_end.new.reader
    (end_loads c.load_attentions.new.tasks c.load_attentions.new.reader c.read_end.new.reader c.read_end.result c.read_end.ensures) none stop)

pub returns-in_err-load_tags : goal.returns-in_err-load_tags
unfolding device_loaded
returns-in_err-load_tags c =
    let first = then_more (attentions_loaded c.args.tasks.now c.args.reader.now) second c.load_attentions.result c.load_attentions.new.tasks
    c.load_attentions.new.reader c.load_attentions.ensures c.in_ok-load_attentions.was in
    let ended = then_more (end_read c.load_attentions.new.tasks c.load_attentions.new.reader) third c.read_end.result c.load_attentions.new.tasks
    c.read_end.new.reader (end_loads c.load_attentions.new.tasks c.load_attentions.new.reader c.read_end.new.reader c.read_end.result c.read_end.ensures)
    c.in_ok-read_end.was in
    let none : c.load_tags.result ≡ None = cc in
    let stop : c.from_residual-in_err-load_tags.result ≡ None = cc in
    rw (first ∙ ended)
    (then_none (tags_loaded c.load_attentions.new.tasks c.read_end.new.reader) (λ (all : Machine) left. end_read all left) c.load_tags.result
    c.from_residual-in_err-load_tags.result c.load_tags.new.tasks c.load_tags.new.tasks c.load_tags.new.reader c.load_tags.ensures none stop)

pub returns : goal.returns
unfolding device_loaded
returns c =
    let first = then_more (attentions_loaded c.args.tasks.now c.args.reader.now) second c.load_attentions.result c.load_attentions.new.tasks
    c.load_attentions.new.reader c.load_attentions.ensures c.in_ok-load_attentions.was in
    let ended = then_more (end_read c.load_attentions.new.tasks c.load_attentions.new.reader) third c.read_end.result c.load_attentions.new.tasks
    c.read_end.new.reader (end_loads c.load_attentions.new.tasks c.load_attentions.new.reader c.read_end.new.reader c.read_end.result c.read_end.ensures)
    c.in_ok-read_end.was in
    let tags = then_more (tags_loaded c.load_attentions.new.tasks c.read_end.new.reader) (λ (all : Machine) left. end_read all left) c.load_tags.result
    c.load_tags.new.tasks c.load_tags.new.reader c.load_tags.ensures c.in_ok-load_tags.was in
    rw (first ∙ ended ∙ tags)
    (end_loads c.load_tags.new.tasks c.load_tags.new.reader c.read_end-2.new.reader c.read_end-2.result c.read_end-2.ensures)
