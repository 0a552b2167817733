-- What the codes of the exports are made of: MIR without lifetimes, type parameters or bounds.
use Rattle.std.proofs.Common.{ℕ, List, []}
use mir.Syntax.{Ty, Body, Fn, Local, local, value_local, place, copy, rv_opd, assign}

-- a local that holds a copy of another
abbrev pub copied : ℕ → ℕ → Body
copied to from = assign (place to []) (rv_opd (copy (place from [])))

abbrev pub one_local : Ty → Local
one_local type = local type value_local

-- a function of so many parameters
abbrev pub plain_function : ℕ → List Local → Body → Fn
plain_function count all body = record { lifetimes = 0; outlives = []; ty_params = []; givens = 0; params = count; locals = all; body = body }
