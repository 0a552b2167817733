-- The endpoints of a setting, one descriptor at a time.
use Rattle.std.proofs.Common.{◌≡◌, ◌≢◌, ℕ, false, List, ◌∷◌, refl}
use Rattle.std.proofs.lemmas.Bool.{ne_eqb}
use Rattle.usb_descriptors.specs.Cutting.{kind_of}
use Rattle.usb_descriptors.specs.Pipes.{groups, is_endpoint, is_interface, setting_of}

-- a descriptor of another type is in no place that counts
pub groups_skip : (d : List ℕ) (ds : List (List ℕ)) → kind_of d ≢ 4 → kind_of d ≢ 5 → groups (setting_of (d ∷ ds)) ≡ groups (setting_of ds)
groups_skip d ds p q =
    let no_interface : is_interface d ≡ false = ne_eqb _ _ p in
    let no_endpoint : is_endpoint d ≡ false = ne_eqb _ _ q in
    rw (no_interface, no_endpoint) refl
