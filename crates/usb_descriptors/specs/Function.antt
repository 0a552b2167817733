-- The UAS function in a configuration (USB 3.2, 9.6.3 and 9.6.5).
use Rattle.std.specs.Prelude.{ℕ, ◌==◌, ◌&&◌, nat_le, Bool, if◌then◌else◌, List, [], ◌∷◌, length, slice_index, Option, None, Some, Result, Ok, Err}
use Rattle.usb_descriptors.specs.declared.Pipes.{Pipes}
use Rattle.usb_descriptors.specs.declared.UasFunction.{UasFunction}
use Rattle.usb_descriptors.specs.declared.DescriptorFault.{DescriptorFault}
use Rattle.usb_descriptors.specs.declared.DescriptorFault.TheVariants.{BadDescriptor, NoUas}
use Rattle.usb_descriptors.specs.Cutting.{descriptors, is_cut, kind_of}
use Rattle.usb_descriptors.specs.Pipes.{is_interface, pipes_of, setting_of}

-- an interface of mass storage (8), SCSI (6), UAS (62h)
abbrev pub is_uas : List ℕ → Bool
is_uas d = is_interface d && (slice_index d 5 == 0x08) && (slice_index d 6 == 0x06) && (slice_index d 7 == 0x62)

-- the first such setting, and the descriptors behind it
abbrev pub setting_in : List (List ℕ) → Option (List ℕ × List (List ℕ))
setting_in [] = None
setting_in (d ∷ ds) = if is_uas d then Some (d, ds) else setting_in ds

-- bConfigurationValue and bMaxPower of the configuration; bInterfaceNumber and bAlternateSetting of the setting
abbrev pub function_in : List ℕ → List ℕ → Pipes → UasFunction
function_in bytes setting pipes = record {
  configuration = slice_index bytes 5;
  max_power = slice_index bytes 8;
  interface = slice_index setting 2;
  alternate = slice_index setting 3;
  pipes = pipes;
}

abbrev pub with_pipes : List ℕ → List ℕ → Result Pipes DescriptorFault → Result UasFunction DescriptorFault
with_pipes bytes setting (Err fault) = Err fault
with_pipes bytes setting (Ok pipes) = Ok (function_in bytes setting pipes)

abbrev pub with_setting : List ℕ → Option (List ℕ × List (List ℕ)) → Result UasFunction DescriptorFault
with_setting bytes None = Err NoUas
with_setting bytes (Some (setting, ds)) = with_pipes bytes setting (pipes_of (setting_of ds))

-- descriptors to their end, of which the first is a configuration
abbrev pub is_configuration : List ℕ → Bool
is_configuration bytes = nat_le 9 (length bytes) && (kind_of bytes == 2) && is_cut bytes

-- Bytes that are no configuration are BadDescriptor, whatever else is wrong. Then NoUas. Then what is wrong with the setting's endpoints, the
-- first of them first; and only then a pipe that is missing, or two at one endpoint.
unfoldable pub uas_in : List ℕ → Result UasFunction DescriptorFault
uas_in bytes = if is_configuration bytes then with_setting bytes (setting_in (descriptors bytes)) else Err BadDescriptor
