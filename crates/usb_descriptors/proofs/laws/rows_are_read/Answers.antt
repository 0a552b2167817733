use Rattle.std.proofs.Common.{refl}
use Rattle.usb_descriptors.specs.Cutting.{descriptors, descriptors_within, is_cut, is_front}
use Rattle.usb_descriptors.specs.Device.{device_in}
use Rattle.usb_descriptors.specs.Endpoints.{endpoint_of}
use Rattle.usb_descriptors.specs.Function.{uas_in}
use Rattle.usb_descriptors.proofs.laws.rows_are_read.Goals as goal

pub returns-clause-emulated : goal.returns-clause-emulated
unfolding uas_in is_cut descriptors descriptors_within is_front endpoint_of
returns-clause-emulated c = λ name. refl

pub returns-clause-short : goal.returns-clause-short
unfolding uas_in is_cut descriptors descriptors_within is_front endpoint_of
returns-clause-short c = refl

pub returns-clause-bridge : goal.returns-clause-bridge
unfolding uas_in is_cut descriptors descriptors_within is_front endpoint_of
returns-clause-bridge c = refl

pub returns-clause-bulk_only : goal.returns-clause-bulk_only
unfolding uas_in is_cut descriptors descriptors_within is_front endpoint_of
returns-clause-bulk_only c = refl

pub returns-clause-one : goal.returns-clause-one
unfolding uas_in is_cut descriptors descriptors_within is_front endpoint_of
returns-clause-one c = refl

pub returns-clause-no_companion : goal.returns-clause-no_companion
unfolding uas_in is_cut descriptors descriptors_within is_front endpoint_of
returns-clause-no_companion c = refl

pub returns-clause-other_size : goal.returns-clause-other_size
unfolding uas_in is_cut descriptors descriptors_within is_front endpoint_of
returns-clause-other_size c = refl

pub returns-clause-contexts : goal.returns-clause-contexts
unfolding device_in
returns-clause-contexts c = (refl, refl, refl, refl)

pub returns-clause-streams : goal.returns-clause-streams
unfolding device_in
returns-clause-streams c = refl

pub returns-clause-no_streams : goal.returns-clause-no_streams
unfolding device_in
returns-clause-no_streams c = refl

pub returns-clause-device : goal.returns-clause-device
unfolding device_in
returns-clause-device c = refl

pub returns-clause-hub : goal.returns-clause-hub
unfolding device_in
returns-clause-hub c = refl

pub returns-clause-totals : goal.returns-clause-totals
unfolding device_in
returns-clause-totals c = (refl, refl, refl)
