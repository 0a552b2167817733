use Rattle.device_bytes.proofs.DeviceLaws.{loaded_read, loaded_saved, saved_loaded}
use Rattle.device_bytes.proofs.LikeLaws.{device_is_loaded}
use Rattle.device_bytes.proofs.laws.what_is_loaded.Goals as goal

pub returns-clause-read : goal.returns-clause-read
returns-clause-read c = loaded_read

pub returns-clause-loaded : goal.returns-clause-loaded
returns-clause-loaded c = saved_loaded

pub returns-clause-saved : goal.returns-clause-saved
returns-clause-saved c = loaded_saved

pub returns-clause-device : goal.returns-clause-device
returns-clause-device c = device_is_loaded
