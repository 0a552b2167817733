-- Operations, taken and read again.
use Rattle.std.proofs.Common.{◌≡◌, ℕ, zero, suc, ◌^◌, ◌<◌, ◌≤◌, ◌==◌, Bool, true, false, cond, List, ◌++◌, Ok, refl, sym, ap, subst, ◌∙◌, append_assoc, arith}
use Rattle.scsi_cmd.specs.declared.Op.{Op}
use Rattle.scsi_cmd.specs.declared.Op.TheVariants.{TestUnitReady, Inquiry, ReadCapacity, Read, Write, Sync, Read16, Write16, ReadCapacity16}
use Rattle.log_text.specs.declared.LogFault.TheVariants.{BadField}
use Rattle.log_text.specs.declared.OpFields.{OpFields}
use Rattle.log_text.specs.Text.{OpFits, field, fields_text, op_code, op_fields, op_text}
use Rattle.log_text.specs.Reading.{◌>>=◌, field_at, fields_at, op_at, op_of}
use Rattle.byte_numbers.specs.Bytes.{AreBytes}
use Rattle.log_text.proofs.ReadResults.{bind_ok, ok_is}
use Rattle.log_text.proofs.TakenFields.{Reads, Taken, Takes, Within, number_again, number_taken, then_takes}

-- THE FIELDS

pub record FieldsWithin (block_most count_most fua_most : ℕ) (fields : OpFields) : Type 0 where
  pub block : Within 8 0 block_most fields.block
  pub count : Within 4 0 count_most fields.count
  pub fua : Within 1 0 fua_most fields.fua

fields_taken : (block_most count_most fua_most : ℕ) (bytes : List ℕ) (x : OpFields × List ℕ) → AreBytes bytes → fields_at block_most count_most fua_most bytes ≡ Ok x
    → Taken fields_text (FieldsWithin block_most count_most fua_most) bytes x
unfolding fields_at
fields_taken block_most count_most fua_most bytes x is e =
    let a = bind_ok (field_at 8 0 block_most bytes) _ x e in
    let b = bind_ok (field_at 4 0 count_most a.0.1) _ x a.2 in
    let c = bind_ok (field_at 1 0 fua_most b.0.1) _ x b.2 in
    let block = number_taken BadField 8 0 block_most bytes a.0 is a.1 in
    let count = number_taken BadField 4 0 count_most a.0.1 b.0 block.takes.rest_bytes b.1 in
    let fua = number_taken BadField 1 0 fua_most b.0.1 c.0 count.takes.rest_bytes c.1 in
    let made : OpFields × List ℕ = (record { block = a.0.0; count = b.0.0; fua = c.0.0 }, c.0.1) in
    subst (λ (y : OpFields × List ℕ). Taken fields_text (FieldsWithin block_most count_most fua_most) bytes y) (ok_is made x c.2) (record {
      takes = then_takes (then_takes block.takes count.takes) fua.takes;
      fits = record { block = block.fits; count = count.fits; fua = fua.fits };
    })

fields_again : (block_most count_most fua_most : ℕ) (fields : OpFields) (rest : List ℕ) → FieldsWithin block_most count_most fua_most fields
    → fields_at block_most count_most fua_most (fields_text fields ++ rest) ≡ Ok (fields, rest)
unfolding fields_at
fields_again block_most count_most fua_most fields rest fits =
    let r2 : List ℕ = field 1 fields.fua ++ rest in
    let r1 : List ℕ = field 4 fields.count ++ r2 in
    let regrouped : fields_text fields ++ rest ≡ field 8 fields.block ++ r1 = simp append_assoc refl in
    ap (fields_at block_most count_most fua_most) regrouped
    ∙ rw (
      number_again BadField 8 0 block_most fields.block r1 fits.block,
      number_again BadField 4 0 count_most fields.count r2 fits.count,
      number_again BadField 1 0 fua_most fields.fua rest fits.fua,
    ) refl

-- THE OPERATION OF ITS FIELDS

pub record IsMade (code : ℕ) (fields : OpFields) (op : Op) : Type 0 where
  pub code_is : op_code op ≡ code
  pub fields_are : op_fields op ≡ fields
  pub op_fits : OpFits op

same_fields : (block count fua : ℕ) (fields : OpFields) → block ≡ fields.block → count ≡ fields.count → fua ≡ fields.fua
    → (record { block = block; count = count; fua = fua }) ≡ fields
same_fields block count fua fields e f g =
    ap (λ (b : ℕ). let made : OpFields = record { block = b; count = count; fua = fua } in made) e
    ∙ ap (λ (c : ℕ). let made : OpFields = record { block = fields.block; count = c; fua = fua } in made) f
    ∙ ap (λ (u : ℕ). let made : OpFields = record { block = fields.block; count = fields.count; fua = u } in made) g

flag_number : (number : ℕ) → number ≤ 1 → cond (number == 1) 1 0 ≡ number
flag_number zero small = refl
flag_number (suc zero) small = refl
flag_number (suc (suc number)) small = absurd (omega arith)

flag_back : (flag : Bool) → (cond flag 1 0 == 1) ≡ flag
flag_back true = refl
flag_back false = refl

pub record KindTaken (code : ℕ) (bytes : List ℕ) (x : Op × List ℕ) : Type 0 where
  pub code_is : op_code x.0 ≡ code
  pub taken : Taken (λ op. fields_text (op_fields op)) OpFits bytes x

made_taken : (made : OpFields → Op) (code block_most count_most fua_most : ℕ) → ((fields : OpFields) → FieldsWithin block_most count_most fua_most fields → IsMade code fields (made fields))
    → (bytes : List ℕ) (x : Op × List ℕ) → AreBytes bytes → (fields_at block_most count_most fua_most bytes >>= λ f. Ok (made f.0, f.1)) ≡ Ok x → KindTaken code bytes x
made_taken made code block_most count_most fua_most is-made bytes x is e =
    let a = bind_ok (fields_at block_most count_most fua_most bytes) (λ f. Ok (made f.0, f.1)) x e in
    let taken = fields_taken block_most count_most fua_most bytes a.0 is a.1 in
    let it = is-made a.0.0 taken.fits in
    let read : Op × List ℕ = (made a.0.0, a.0.1) in
    subst (λ (y : Op × List ℕ). KindTaken code bytes y) (ok_is read x a.2) (record {
      code_is = it.code_is;
      taken = record { takes = subst (λ (fields : OpFields). Takes bytes (fields_text fields) a.0.1) (sym it.fields_are) taken.takes; fits = it.op_fits };
    })

-- EACH CODE

below_nine : (P : ℕ → Type 0) → P 0 → P 1 → P 2 → P 3 → P 4 → P 5 → P 6 → P 7 → P 8 → (n : ℕ) → n ≤ 8 → P n
below_nine P a b c d e f g h i zero small = a
below_nine P a b c d e f g h i (suc zero) small = b
below_nine P a b c d e f g h i (suc (suc zero)) small = c
below_nine P a b c d e f g h i (suc (suc (suc zero))) small = d
below_nine P a b c d e f g h i (suc (suc (suc (suc zero)))) small = e
below_nine P a b c d e f g h i (suc (suc (suc (suc (suc zero))))) small = f
below_nine P a b c d e f g h i (suc (suc (suc (suc (suc (suc zero)))))) small = g
below_nine P a b c d e f g h i (suc (suc (suc (suc (suc (suc (suc zero))))))) small = h
below_nine P a b c d e f g h i (suc (suc (suc (suc (suc (suc (suc (suc zero)))))))) small = i
below_nine P a b c d e f g h i (suc (suc (suc (suc (suc (suc (suc (suc (suc n))))))))) small = absurd (omega arith)

abbrev CodeTaken : ℕ → Type 0
CodeTaken code = (bytes : List ℕ) (x : Op × List ℕ) → AreBytes bytes → op_of code bytes ≡ Ok x → KindTaken code bytes x

op_of_taken : (code : ℕ) → code ≤ 8 → CodeTaken code
unfolding op_of
op_of_taken =
    below_nine CodeTaken
    (made_taken (λ f. TestUnitReady) 0 0 0 0 (λ f w. record {
      code_is = refl;
      fields_are = same_fields 0 0 0 f (omega (arith, w.block.most)) (omega (arith, w.count.most)) (omega (arith, w.fua.most));
      op_fits = tt;
    }))
    (made_taken (λ f. Inquiry f.count) 1 0 0xffff 0 (λ f w. record {
      code_is = refl;
      fields_are = same_fields 0 f.count 0 f (omega (arith, w.block.most)) refl (omega (arith, w.fua.most));
      op_fits = omega (arith, w.count.most);
    }))
    (made_taken (λ f. ReadCapacity) 2 0 0 0 (λ f w. record {
      code_is = refl;
      fields_are = same_fields 0 0 0 f (omega (arith, w.block.most)) (omega (arith, w.count.most)) (omega (arith, w.fua.most));
      op_fits = tt;
    }))
    (made_taken (λ f. Read f.block f.count (f.fua == 1)) 3 0xffffffff 0xffff 1 (λ f w. record {
      code_is = refl;
      fields_are = same_fields f.block f.count (cond (f.fua == 1) 1 0) f refl refl (flag_number f.fua w.fua.most);
      op_fits = (omega (arith, w.block.most), omega (arith, w.count.most));
    }))
    (made_taken (λ f. Write f.block f.count (f.fua == 1)) 4 0xffffffff 0xffff 1 (λ f w. record {
      code_is = refl;
      fields_are = same_fields f.block f.count (cond (f.fua == 1) 1 0) f refl refl (flag_number f.fua w.fua.most);
      op_fits = (omega (arith, w.block.most), omega (arith, w.count.most));
    }))
    (made_taken (λ f. Sync f.block f.count) 5 0xffffffff 0xffff 0 (λ f w. record {
      code_is = refl;
      fields_are = same_fields f.block f.count 0 f refl refl (omega (arith, w.fua.most));
      op_fits = (omega (arith, w.block.most), omega (arith, w.count.most));
    }))
    (made_taken (λ f. Read16 f.block f.count (f.fua == 1)) 6 0xffffffffffffffff 0xffffffff 1 (λ f w. record {
      code_is = refl;
      fields_are = same_fields f.block f.count (cond (f.fua == 1) 1 0) f refl refl (flag_number f.fua w.fua.most);
      op_fits = (omega (arith, w.block.most), omega (arith, w.count.most));
    }))
    (made_taken (λ f. Write16 f.block f.count (f.fua == 1)) 7 0xffffffffffffffff 0xffffffff 1 (λ f w. record {
      code_is = refl;
      fields_are = same_fields f.block f.count (cond (f.fua == 1) 1 0) f refl refl (flag_number f.fua w.fua.most);
      op_fits = (omega (arith, w.block.most), omega (arith, w.count.most));
    }))
    (made_taken (λ f. ReadCapacity16 f.count) 8 0 0xffffffff 0 (λ f w. record {
      code_is = refl;
      fields_are = same_fields 0 f.count 0 f (omega (arith, w.block.most)) refl (omega (arith, w.fua.most));
      op_fits = omega (arith, w.count.most);
    }))

within_fields : (block_most count_most fua_most : ℕ) (fields : OpFields) → fields.block ≤ block_most → fields.block < 2 ^ 64 → fields.count ≤ count_most → fields.count < 2 ^ 32
    → fields.fua ≤ fua_most → fields.fua ≤ 1 → FieldsWithin block_most count_most fua_most fields
within_fields block_most count_most fua_most fields a b c d e f = record {
  block = record { least = omega arith; most = a; wide = omega (arith, b) };
  count = record { least = omega arith; most = c; wide = omega (arith, d) };
  fua = record { least = omega arith; most = e; wide = omega (arith, f) };
}

flag_small : (flag : Bool) → cond flag 1 0 ≤ 1
flag_small true = omega arith
flag_small false = omega arith

op_of_again : (op : Op) (rest : List ℕ) → OpFits op → op_of (op_code op) (fields_text (op_fields op) ++ rest) ≡ Ok (op, rest)
unfolding op_of
op_of_again TestUnitReady rest fits =
    rw (fields_again 0 0 0 (op_fields TestUnitReady) rest (within_fields 0 0 0 (op_fields TestUnitReady) (omega arith) (omega arith) (omega arith) (omega arith) (omega arith) (omega arith))) refl
op_of_again (Inquiry allocation) rest fits =
    rw (fields_again 0 0xffff 0 (op_fields (Inquiry allocation)) rest (within_fields 0 0xffff 0 (op_fields (Inquiry allocation)) (omega arith) (omega arith) (omega (arith, fits)) (omega (arith, fits)) (omega arith) (omega arith))) refl
op_of_again ReadCapacity rest fits =
    rw (fields_again 0 0 0 (op_fields ReadCapacity) rest (within_fields 0 0 0 (op_fields ReadCapacity) (omega arith) (omega arith) (omega arith) (omega arith) (omega arith) (omega arith))) refl
op_of_again (Read lba count fua) rest fits =
    rw (fields_again 0xffffffff 0xffff 1 (op_fields (Read lba count fua)) rest (within_fields 0xffffffff 0xffff 1 (op_fields (Read lba count fua)) (omega (arith, fits.0)) (omega (arith, fits.0)) (omega (arith, fits.1)) (omega (arith, fits.1)) (flag_small fua) (flag_small fua)))
    (ap (λ (flag : Bool). Ok (Read lba count flag, rest)) (flag_back fua))
op_of_again (Write lba count fua) rest fits =
    rw (fields_again 0xffffffff 0xffff 1 (op_fields (Write lba count fua)) rest (within_fields 0xffffffff 0xffff 1 (op_fields (Write lba count fua)) (omega (arith, fits.0)) (omega (arith, fits.0)) (omega (arith, fits.1)) (omega (arith, fits.1)) (flag_small fua) (flag_small fua)))
    (ap (λ (flag : Bool). Ok (Write lba count flag, rest)) (flag_back fua))
op_of_again (Sync lba count) rest fits =
    rw (fields_again 0xffffffff 0xffff 0 (op_fields (Sync lba count)) rest (within_fields 0xffffffff 0xffff 0 (op_fields (Sync lba count)) (omega (arith, fits.0)) (omega (arith, fits.0)) (omega (arith, fits.1)) (omega (arith, fits.1)) (omega arith) (omega arith))) refl
op_of_again (Read16 lba count fua) rest fits =
    rw (fields_again 0xffffffffffffffff 0xffffffff 1 (op_fields (Read16 lba count fua)) rest (within_fields 0xffffffffffffffff 0xffffffff 1 (op_fields (Read16 lba count fua)) (omega (arith, fits.0)) (omega (arith, fits.0)) (omega (arith, fits.1)) (omega (arith, fits.1)) (flag_small fua) (flag_small fua)))
    (ap (λ (flag : Bool). Ok (Read16 lba count flag, rest)) (flag_back fua))
op_of_again (Write16 lba count fua) rest fits =
    rw (fields_again 0xffffffffffffffff 0xffffffff 1 (op_fields (Write16 lba count fua)) rest (within_fields 0xffffffffffffffff 0xffffffff 1 (op_fields (Write16 lba count fua)) (omega (arith, fits.0)) (omega (arith, fits.0)) (omega (arith, fits.1)) (omega (arith, fits.1)) (flag_small fua) (flag_small fua)))
    (ap (λ (flag : Bool). Ok (Write16 lba count flag, rest)) (flag_back fua))
op_of_again (ReadCapacity16 allocation) rest fits =
    rw (fields_again 0 0xffffffff 0 (op_fields (ReadCapacity16 allocation)) rest (within_fields 0 0xffffffff 0 (op_fields (ReadCapacity16 allocation)) (omega arith) (omega arith) (omega (arith, fits)) (omega (arith, fits)) (omega arith) (omega arith))) refl

-- AN OPERATION

op_taken : (bytes : List ℕ) (x : Op × List ℕ) → AreBytes bytes → op_at bytes ≡ Ok x → Taken op_text OpFits bytes x
unfolding op_at
op_taken bytes x is e =
    let a = bind_ok (field_at 1 0 8 bytes) _ x e in
    let code = number_taken BadField 1 0 8 bytes a.0 is a.1 in
    let kind = op_of_taken a.0.0 code.fits.most a.0.1 x code.takes.rest_bytes a.2 in
    record {
      takes = then_takes (subst (λ (n : ℕ). Takes bytes (field 1 n) a.0.1) (sym kind.code_is) code.takes) kind.taken.takes;
      fits = kind.taken.fits;
    }

pub code_small : (op : Op) → op_code op ≤ 8
code_small TestUnitReady = omega arith
code_small (Inquiry allocation) = omega arith
code_small ReadCapacity = omega arith
code_small (Read lba count fua) = omega arith
code_small (Write lba count fua) = omega arith
code_small (Sync lba count) = omega arith
code_small (Read16 lba count fua) = omega arith
code_small (Write16 lba count fua) = omega arith
code_small (ReadCapacity16 allocation) = omega arith

op_again : (op : Op) (rest : List ℕ) → OpFits op → op_at (op_text op ++ rest) ≡ Ok (op, rest)
unfolding op_at
op_again op rest fits =
    let within : Within 1 0 8 (op_code op) = record { least = omega arith; most = code_small op; wide = omega (arith, code_small op) } in
    ap op_at (append_assoc (field 1 (op_code op)) (fields_text (op_fields op)) rest)
    ∙ rw (number_again BadField 1 0 8 (op_code op) (fields_text (op_fields op) ++ rest) within) (op_of_again op rest fits)

pub reads_op : Reads op_at op_text OpFits
reads_op = record { taken = op_taken; again = op_again }
