-- What a crate has of a type behind a handle, and of its name in C: their laws, and how a value is made of units and let go. With it the
-- export that makes a handle of the type is proved once, in NewExport and OpenExport.
use Rattle.std.proofs.Common.{◌≡◌, [], ◌∷◌}
use mir.Raw.{raw as bare}
use mir.Syntax.{Args, Dict, a_type, dcons, dnil}
use base.Fml.{Lft}
use contract.BorrowLft.{◌⊑◌}
use denote.Param.{bounded, layout}
use denote.Param.Laws.{Laws}
use denote.RattleType.{RattleType}
use Rattle.c_common.specs.declared.units.OfUnits as of_units
use Rattle.c_common.proofs.Given.{As, as_laws}

-- a type as a caller of a generic function gives it
pub record Known : Type 2 where
  pub row : RattleType
  pub laws : Laws row
  pub same : bare (bare (layout row)) ≡ bare (layout row)
  pub within : (κ : Lft) → κ ⊑ row.lives

abbrev pub known : (row : RattleType) → Laws row → bare (bare (layout row)) ≡ bare (layout row) → ((κ : Lft) → κ ⊑ row.lives) → Known
known row laws same within = record { row = row; laws = laws; same = same; within = within }

pub known_laws : (type : Known) → Laws (As type.row)
known_laws type = as_laws type.row type.laws type.same

pub record Behind : Type 2 where
  pub type : Known
  pub name : Known
  pub units : of_units.Ghosts type.row.Denot
  pub of_units : Dict
  pub drop : Dict

abbrev pub behind : (type : Known) → Known → of_units.Ghosts type.row.Denot → Dict → Dict → Behind
behind type name units of drop = record { type = type; name = name; units = units; of_units = of; drop = drop }

-- what a caller of `new_handle` and `open_handle` gives for their type parameters
abbrev pub given_types : Behind → Args
given_types b = bounded (a_type ∷ a_type ∷ []) (As b.type.row, (As b.name.row, tt)) (dcons b.of_units (dcons b.drop dnil))
