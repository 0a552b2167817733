-- Row 2: what memory is wanted, and which is taken; and the rows of the table.
use Rattle.std.specs.Prelude.{◌≡◌, ℕ, ◌+◌, ◌-◌, ◌%◌, ◌^◌, ◌&&◌, ◌||◌, min, nat_le, nat_lt, if◌then◌else◌, Bool, true, false}
use Rattle.host_layout.specs.declared.layout.Layout.{Layout}
use Rattle.host_layout.specs.declared.shape.Shape.{Shape}
use Rattle.host_layout.specs.Shapes.{bytes_of}
use Rattle.bring_up.specs.declared.bring_up.BringUp.{BringUp}
use Rattle.bring_up.specs.declared.bring_up.Stage.{Stage}
use Rattle.bring_up.specs.declared.bring_up.Stage.TheVariants.{Surveying, Wanting, Taken, Refused, Gone}
use Rattle.bring_up.specs.declared.controller.Controller.{Controller}
use Rattle.bring_up.specs.declared.options.Options.{Options}
use Rattle.bring_up.specs.Table.{taken_begun}

-- arrays of 2^(MaxPSASize + 1) stream contexts, of which the first is of no tag
abbrev pub tags_of : Options → Controller → ℕ
tags_of options c = if nat_lt c.max_psa_size 7 then min options.tags (2 ^ (c.max_psa_size + 1) - 1) else options.tags

pub record IsShapeFor (options : Options) (c : Controller) (shape : Shape) : Type 0 where
  pub tags : shape.tags ≡ tags_of options c
  pub pieces : shape.pieces ≡ options.pieces
  pub scratchpads : shape.scratchpads ≡ c.scratchpads
  pub page : shape.page ≡ c.page
  pub contexts : shape.contexts ≡ c.contexts

-- without AC64 addresses have 32 bits
abbrev pub reach_bits : Options → Controller → ℕ
reach_bits options c = min (min options.address_bits (if c.is_wide then 64 else 32)) (if options.quirks.has_36_bits then 36 else 64)

abbrev pub has_reach : Options → Controller → ℕ → ℕ → Bool
has_reach options c base bytes =
    nat_lt (base + bytes) (2 ^ 64) && (nat_le 64 (reach_bits options c) || nat_le (base + bytes) (2 ^ reach_bits options c))
    && nat_le (base % 2 ^ 32 + bytes) (2 ^ 32)

abbrev pub is_wanting : Stage → Bool
is_wanting (Surveying s) = false
is_wanting (Wanting c) = true
is_wanting (Taken t) = false
is_wanting (Refused why) = false
is_wanting Gone = false

abbrev pub lent : BringUp → Controller → Layout → BringUp
lent b c layout = record b { stage = Taken (taken_begun c layout b.options.quirks b.time) }

-- so many bytes are wanted for a controller; where there is no shape for its counts, which no survey tells, none are
abbrev pub WantsFor : Options → Controller → ℕ → Type 0
WantsFor options c bytes = (shape : Shape) → IsShapeFor options c shape → bytes ≡ bytes_of shape

abbrev pub WantsBytes : Options → Stage → ℕ → Type 0
WantsBytes options (Surveying s) bytes = Unit {0}
WantsBytes options (Wanting c) bytes = WantsFor options c bytes
WantsBytes options (Taken t) bytes = Unit {0}
WantsBytes options (Refused why) bytes = Unit {0}
WantsBytes options Gone bytes = Unit {0}
