-- The logical units of records one behind another, step by step. Cited by `shapes_fault` and `shapes`.
use Rattle.std.proofs.Common.{◌≡◌, ℕ, zero, suc, ◌==◌, true, false, List, [], ◌∷◌, ◌++◌, drop, length, take, Some, Result, Ok, Err, refl, sym, ap, ap₂, ◌∙◌}
use Rattle.std.proofs.lemmas.List.{append_assoc}
use Rattle.std.specs.Result.{result_err}
use Rattle.c_common.specs.declared.faults.TheConstants.{UNITS}
use Rattle.c_disks.specs.Records.{disk_asked, first_size}
use Rattle.c_disks.specs.declared.RecordFault.{RecordFault}
use Rattle.host_commands.specs.Shapes.{Shape}
use Rattle.c_tasks.specs.Disks.{disk_shapes, record_fault, shape_then}

-- these and then those
abbrev pub joined : List Shape → Result (List Shape) ℕ → Result (List Shape) ℕ
joined before (Ok behind) = Ok (before ++ behind)
joined before (Err fault) = Err fault

fault_then : (shape : Shape) (behind : Result (List Shape) ℕ) → result_err (shape_then (Ok shape) behind) ≡ result_err behind
fault_then shape (Ok shapes) = refl
fault_then shape (Err fault) = refl

joined_then : (before : List Shape) (shape : Shape) (behind : Result (List Shape) ℕ)
    → joined before (shape_then (Ok shape) behind) ≡ joined (before ++ shape ∷ []) behind
joined_then before shape (Ok shapes) = ap (λ (all : List Shape). Ok all) (sym (append_assoc before (shape ∷ []) shapes))
joined_then before shape (Err fault) = refl

-- where no byte is left
pub none_behind : (more number : ℕ) (rest : List ℕ) → (length rest == 0) ≡ true → disk_shapes more number rest ≡ Ok []
unfolding disk_shapes
none_behind zero number rest none = rw none refl
none_behind (suc more) number rest none = rw none refl

-- where no more may come
pub too_many : (number : ℕ) (rest : List ℕ) → (length rest == 0) ≡ false → disk_shapes 0 number rest ≡ Err UNITS
unfolding disk_shapes
too_many number rest some = rw some refl

-- the first of those that are left, one more than `more`, and those behind it
pub record IsCut (left more number next : ℕ) (rest front behind : List ℕ) : Type 0 where
  pub count : left ≡ suc more
  pub numbered : next ≡ suc number
  pub some : (length rest == 0) ≡ false
  pub first : front ≡ take (first_size rest) rest
  pub others : behind ≡ drop (first_size rest) rest

taken : (more number : ℕ) (rest : List ℕ) (shape : Shape) → (length rest == 0) ≡ false → disk_asked number (take (first_size rest) rest) ≡ Ok shape
    → disk_shapes (suc more) number rest ≡ shape_then (Ok shape) (disk_shapes more (suc number) (drop (first_size rest) rest))
unfolding disk_shapes
taken more number rest shape some asked = rw (some, asked) refl

taken_at : (left more number next : ℕ) (rest front behind : List ℕ) (shape : Shape) → IsCut left more number next rest front behind
    → disk_asked number front ≡ Ok shape → disk_shapes left number rest ≡ shape_then (Ok shape) (disk_shapes more next behind)
taken_at left more number next rest front behind shape cut asked =
    ap (λ (k : ℕ). disk_shapes k number rest) cut.count
    ∙ taken more number rest shape cut.some (ap (λ (bytes : List ℕ). disk_asked number bytes) (sym cut.first) ∙ asked)
    ∙ sym (ap₂ (λ (k : ℕ) (bytes : List ℕ). shape_then (Ok shape) (disk_shapes more k bytes)) cut.numbered cut.others)

pub fault_behind : (left more number next : ℕ) (rest front behind : List ℕ) (shape : Shape) → IsCut left more number next rest front behind
    → disk_asked number front ≡ Ok shape → result_err (disk_shapes left number rest) ≡ result_err (disk_shapes more next behind)
fault_behind left more number next rest front behind shape cut asked =
    ap (λ (all : Result (List Shape) ℕ). result_err all) (taken_at left more number next rest front behind shape cut asked)
    ∙ fault_then shape (disk_shapes more next behind)

pub joined_behind : (before : List Shape) (left more number next : ℕ) (rest front behind : List ℕ) (shape : Shape)
    → IsCut left more number next rest front behind → disk_asked number front ≡ Ok shape
    → joined before (disk_shapes left number rest) ≡ joined (before ++ shape ∷ []) (disk_shapes more next behind)
joined_behind before left more number next rest front behind shape cut asked =
    ap (λ (all : Result (List Shape) ℕ). joined before all) (taken_at left more number next rest front behind shape cut asked)
    ∙ joined_then before shape (disk_shapes more next behind)

refused : (more number : ℕ) (rest : List ℕ) (fault : RecordFault) → (length rest == 0) ≡ false
    → disk_asked number (take (first_size rest) rest) ≡ Err fault → disk_shapes (suc more) number rest ≡ Err (record_fault fault)
unfolding disk_shapes
refused more number rest fault some asked = rw (some, asked) refl

pub refused_at : (left more number next : ℕ) (rest front behind : List ℕ) (fault : RecordFault) → IsCut left more number next rest front behind
    → disk_asked number front ≡ Err fault → disk_shapes left number rest ≡ Err (record_fault fault)
refused_at left more number next rest front behind fault cut asked =
    ap (λ (k : ℕ). disk_shapes k number rest) cut.count
    ∙ refused more number rest fault cut.some (ap (λ (bytes : List ℕ). disk_asked number bytes) (sym cut.first) ∙ asked)
