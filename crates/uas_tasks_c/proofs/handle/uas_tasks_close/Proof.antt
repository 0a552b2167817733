-- The end of the device is the end of a handle: what lies at the pointer is moved out, and given to `release`.
use Rattle.std.proofs.Common.{refl}
use Rattle.c_common.proofs.Closed.{meets}
use Rattle.uas_tasks_c.specs.contracts.door.KeptTasks.{the_row as tasks_row}
use Rattle.uas_tasks_c.proofs.door.KeptTasks.TheLaws.{the_field_loose}
use Rattle.uas_tasks_c.proofs.handle.release.Symbol.{name as #release}
use Rattle.uas_tasks_c.proofs.handle.release.Met.{met}
use Rattle.uas_tasks_c.specs.contracts.handle.uas_tasks_close.Key.{name}
use Rattle.uas_tasks_c.proofs.handle.uas_tasks_close.Statement.{statement}
use Rattle.uas_tasks_c.proofs.handle.uas_tasks_close.Code as code

pub uas_tasks_close_spec : {M : Type 1} → statement M
uas_tasks_close_spec 𝓤 𝓛 𝓜 𝓡 wired =
    meets tasks_row refl #release 𝓤 𝓛 𝓜 𝓡 (the_field_loose.lawful 𝓛) name (code.unfolded 𝓤 𝓛.H 𝓜 𝓡 wired)
    (met 𝓤 𝓛 𝓜 𝓡 (code.calls-uas_tasks_c::handle::release 𝓡.env wired))
