use Rattle.device_bytes.proofs.DevicesExact.{device-exact}
use Rattle.device_bytes.proofs.laws.form_is_exact.Goals as goal

pub returns : goal.returns
returns c = device-exact
