-- A function is found in the bytes that tell it.
use Rattle.std.proofs.Common.{◌≡◌, ℕ, ◌+◌, ◌*◌, ◌/◌, ◌%◌, ◌==◌, true, false, List, [], ◌∷◌, refl, sym, ap, ◌∙◌, arith, Some, Ok, Result, lit≤}
use Rattle.std.proofs.lemmas.Bool.{eq-eqb, ne_eqb}
use Rattle.std.proofs.lemmas.Bool.Decides.{nat_tests}
use Rattle.uas_profile.specs.declared.Pipe.{Pipe}
use Rattle.uas_profile.specs.declared.Pipe.TheVariants.{Command, Status, DataIn, DataOut}
use Rattle.usb_descriptors.specs.declared.Endpoint.{Endpoint}
use Rattle.usb_descriptors.specs.declared.UasFunction.{UasFunction}
use Rattle.usb_descriptors.specs.Cutting.{EachDescriptor, IsDescriptor}
use Rattle.usb_descriptors.specs.Endpoints.{FitsEndpoint, endpoint_in, endpoint_of, is_beyond, suits}
use Rattle.usb_descriptors.specs.Function.{uas_in}
use Rattle.usb_descriptors.specs.Pipes.{FitsPipes, Group, apart, gathered, nothing_found, pipes_of, put, whole, with_found}
use Rattle.usb_descriptors.specs.declared.gathering.Found.{Found}
use Rattle.usb_descriptors.specs.declared.DescriptorFault.{DescriptorFault}
use Rattle.usb_descriptors.specs.Texts.{companion_text, endpoint_text, function_text, function_texts, pipe_texts, setting_texts, usage_text}
use Rattle.usb_descriptors.proofs.Joins.{joined_cut}

same_endpoint : (e : Endpoint) (address max_packet max_streams : ℕ) → address ≡ e.address → max_packet ≡ e.max_packet → max_streams ≡ e.max_streams
    → record { address = address; max_packet = max_packet; burst = e.burst; max_streams = max_streams } ≡ e
same_endpoint e address max_packet max_streams p q r = rw (p, q, r) refl

endpoint_told : (pipe : Pipe) (e : Endpoint) → FitsEndpoint pipe e → endpoint_of (endpoint_text e) pipe (Some (companion_text e)) ≡ Ok e
unfolding endpoint_of
endpoint_told pipe e fits =
    let number : e.address % 16 ≡ e.address % 128 = omega (arith, fits.most_number) in
    let some : (e.address % 16 == 0) ≡ false = ne_eqb _ _ (λ none. omega (arith, fits.least_number, number, none)) in
    let way = eq-eqb _ _ fits.direction in
    let address : 128 * (e.address / 128) + e.address % 16 ≡ e.address = omega (arith, number) in
    let streams : e.max_streams % 32 ≡ e.max_streams = omega (arith, fits.max_streams) in
    let packet = fits.max_packet in
    let beyond : is_beyond (companion_text e) ≡ false = grind (arith, nat_tests, fits.burst, fits.max_streams, streams) in
    let right : suits (endpoint_text e) pipe ≡ true = rw (some, way) refl in
    let told : endpoint_in (endpoint_text e) (companion_text e) ≡ e = same_endpoint e _ _ _ address (sym packet) streams in
    rw (right, beyond) (ap (λ (e : Endpoint). Ok e) told)

-- an endpoint with its own, of the pipe of this number
abbrev group_of : ℕ → Endpoint → Group
group_of id e = record { endpoint = endpoint_text e; own = companion_text e ∷ usage_text id ∷ [] }

told : (found : Found) (pipe : Pipe) (e : Endpoint) → FitsEndpoint pipe e
    → put found pipe (endpoint_of (endpoint_text e) pipe (Some (companion_text e))) ≡ put found pipe (Ok e)
told found pipe e fits = ap (put found pipe) (endpoint_told pipe e fits)

told_pipes : (f : UasFunction) → FitsPipes f.pipes → pipes_of (setting_texts f) ≡ Ok f.pipes
told_pipes f fits =
    let out_apart : (f.pipes.command.address == f.pipes.data_out.address) ≡ false = ne_eqb _ _ fits.out_apart in
    let in_apart : (f.pipes.status.address == f.pipes.data_in.address) ≡ false = ne_eqb _ _ fits.in_apart in
    let second : Group = group_of 2 f.pipes.status in
    let third : Group = group_of 3 f.pipes.data_in in
    let fourth : Group = group_of 4 f.pipes.data_out in
    let one : Found = with_found nothing_found Command f.pipes.command in
    let two : Found = with_found one Status f.pipes.status in
    let three : Found = with_found two DataIn f.pipes.data_in in
    let last : apart f.pipes ≡ Ok f.pipes = rw (out_apart, in_apart) refl in
    ap (λ (r : Result Found DescriptorFault). whole (gathered r (second ∷ third ∷ fourth ∷ []))) (told nothing_found Command f.pipes.command fits.command)
    ∙ ap (λ (r : Result Found DescriptorFault). whole (gathered r (third ∷ fourth ∷ []))) (told one Status f.pipes.status fits.status)
    ∙ ap (λ (r : Result Found DescriptorFault). whole (gathered r (fourth ∷ []))) (told two DataIn f.pipes.data_in fits.data_in)
    ∙ ap (λ (r : Result Found DescriptorFault). whole (gathered r [])) (told three DataOut f.pipes.data_out fits.data_out) ∙ last

-- each of the texts is a descriptor of its type
endpoint_is : (e : Endpoint) → IsDescriptor (endpoint_text e)
endpoint_is e = record { told = refl; least = lit≤ tt }

companion_is : (e : Endpoint) → IsDescriptor (companion_text e)
companion_is e = record { told = refl; least = lit≤ tt }

usage_is : (id : ℕ) → IsDescriptor (usage_text id)
usage_is id = record { told = refl; least = lit≤ tt }

pipe_each : (id : ℕ) (e : Endpoint) (behind : List (List ℕ)) → EachDescriptor behind → EachDescriptor (pipe_texts id e behind)
pipe_each id e behind each = (endpoint_is e, (companion_is e, (usage_is id, each)))

each_text : (f : UasFunction) → EachDescriptor (function_texts f)
each_text f = (
  record { told = refl; least = lit≤ tt },
  (
    record { told = refl; least = lit≤ tt },
    pipe_each 1 f.pipes.command (pipe_texts 2 f.pipes.status (pipe_texts 3 f.pipes.data_in (pipe_texts 4 f.pipes.data_out [])))
        (pipe_each 2 f.pipes.status (pipe_texts 3 f.pipes.data_in (pipe_texts 4 f.pipes.data_out []))
        (pipe_each 3 f.pipes.data_in (pipe_texts 4 f.pipes.data_out []) (pipe_each 4 f.pipes.data_out [] tt))),
  ),
)

pub function_found : (f : UasFunction) → FitsPipes f.pipes → uas_in (function_text f) ≡ Ok f
unfolding uas_in
function_found f fits =
    let parts = joined_cut (function_texts f) (each_text f) in
    rw (parts.1, parts.0, told_pipes f fits) refl
