use Rattle.std.proofs.Common.{map, inl, inr}
use Rattle.std.proofs.lemmas.Result.{err_from_is_err_and}
use Rattle.usb_serve.specs.Files.{filed}
use Rattle.usb_serve.proofs.Filing.{all_done, on_err_told, on_ok_told}
use Rattle.usb_serve.proofs.session.serve.Goals as goal

pub returns-in_err-talked-clause-failed : goal.returns-in_err-talked-clause-failed
returns-in_err-talked-clause-failed g c =
    let p = err_from_is_err_and c.from_residual.result c.from_residual.ensures.1 in
    rw (p.1, p.2) (inr (record {
      last = map (filed g.B.Blocks.tells g.B.Blocks.can_fail g.B.Blocks.holds g.B.Blocks.synced g.B.Blocks.is_spoiled) c.talk-talked.new.units;
      told = c.sync_all-synced.result;
      synced = c.sync_all-synced.ensures.synced;
      how = inl c.in_err-talked.ensures.broken;
    }))

pub returns-clause-failed : goal.returns-clause-failed
returns-clause-failed g c =
    on_err_told c.sync_all-synced.result (λ reason is. inr (record {
      last = map (filed g.B.Blocks.tells g.B.Blocks.can_fail g.B.Blocks.holds g.B.Blocks.synced g.B.Blocks.is_spoiled) c.talk-talked.new.units;
      told = c.sync_all-synced.result;
      synced = c.sync_all-synced.ensures.synced;
      how = inr (is, c.in_ok-talked.ensures.talked);
    }))

pub returns-clause-ended : goal.returns-clause-ended
returns-clause-ended g c =
    let view = filed g.B.Blocks.tells g.B.Blocks.can_fail g.B.Blocks.holds g.B.Blocks.synced g.B.Blocks.is_spoiled in
    on_ok_told c.sync_all-synced.result (λ is. record {
      last = map view c.talk-talked.new.units;
      talked = c.in_ok-talked.ensures.talked;
      synced = all_done c.sync_all-synced.result (map view c.talk-talked.new.units) (map view c.sync_all-synced.new.units) is
          c.sync_all-synced.ensures.synced;
    })
