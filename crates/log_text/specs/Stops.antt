-- What a caller is told of a reading that stopped.
use Rattle.log_text.specs.declared.LogFault.{LogFault}
use Rattle.log_text.specs.declared.LogFault.TheVariants.{NoMemory}
use Rattle.log_text.specs.declared.Stop.{Stop}
use Rattle.log_text.specs.declared.Stop.TheVariants.{Memory, Fault}

abbrev pub fault_of : Stop → LogFault
fault_of Memory = NoMemory
fault_of (Fault fault) = fault
