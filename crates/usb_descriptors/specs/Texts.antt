-- The bytes that tell a UAS function: a configuration, its interface, and of each pipe an endpoint, its companion and its usage.
use Rattle.std.specs.Prelude.{ℕ, List, [], ◌∷◌}
use Rattle.usb_descriptors.specs.declared.Endpoint.{Endpoint}
use Rattle.usb_descriptors.specs.declared.UasFunction.{UasFunction}
use Rattle.usb_descriptors.specs.Cutting.{joined}

-- 9.6.6, 9.6.7: a bulk endpoint of 1,024 bytes a packet, its companion, and the number of its pipe
abbrev pub endpoint_text : Endpoint → List ℕ
endpoint_text endpoint = 7 ∷ 5 ∷ endpoint.address ∷ 2 ∷ 0 ∷ 4 ∷ 0 ∷ []

abbrev pub companion_text : Endpoint → List ℕ
companion_text endpoint = 6 ∷ 0x30 ∷ endpoint.burst ∷ endpoint.max_streams ∷ 0 ∷ 0 ∷ []

abbrev pub usage_text : ℕ → List ℕ
usage_text id = 4 ∷ 0x24 ∷ id ∷ 0 ∷ []

-- 9.6.3, 9.6.5: 86 bytes in all, one interface, self-powered; four endpoints
abbrev pub configuration_text : UasFunction → List ℕ
configuration_text f = 9 ∷ 2 ∷ 86 ∷ 0 ∷ 1 ∷ f.configuration ∷ 0 ∷ 0xc0 ∷ f.max_power ∷ []

abbrev pub interface_text : UasFunction → List ℕ
interface_text f = 9 ∷ 4 ∷ f.interface ∷ f.alternate ∷ 4 ∷ 8 ∷ 6 ∷ 0x62 ∷ 0 ∷ []

abbrev pub pipe_texts : ℕ → Endpoint → List (List ℕ) → List (List ℕ)
pipe_texts id endpoint behind = endpoint_text endpoint ∷ companion_text endpoint ∷ usage_text id ∷ behind

abbrev pub setting_texts : UasFunction → List (List ℕ)
setting_texts f =
    pipe_texts 1 f.pipes.command (pipe_texts 2 f.pipes.status (pipe_texts 3 f.pipes.data_in (pipe_texts 4 f.pipes.data_out [])))

abbrev pub function_texts : UasFunction → List (List ℕ)
function_texts f = configuration_text f ∷ interface_text f ∷ setting_texts f

abbrev pub function_text : UasFunction → List ℕ
function_text f = joined (function_texts f)
