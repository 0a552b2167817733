-- A text has one log, or one fault.
use Rattle.std.proofs.Common.{◌≡◌, ℕ, ◌-◌, Bool, cond, List, length, Result, Ok, Err, IfOk, refl, ap, subst, ◌∙◌, inl, inr}
use Rattle.std.specs.Prelude.{IfErr}
use Rattle.std.proofs.lemmas.Bool.{ne_eqb}
use Rattle.log_records.specs.checksum.Bytes.{AreBytes}
use Rattle.log_records.proofs.Bytes.{bytes_front}
use Rattle.kept_log.specs.declared.KeptFault.{KeptFault}
use Rattle.kept_log.specs.declared.KeptFault.TheVariants.{Head, HeadSum, WrongRecord, BadBody, TooMany, WrongCount, BehindEnd, NoMemory}
use Rattle.kept_log.specs.declared.Loaded.{Loaded}
use Rattle.kept_log.specs.Form.{front_text, head_sum}
use Rattle.kept_log.specs.LoadAt.{Loads, behind_head, load_at, loaded_of, rest_at}
use Rattle.kept_log.specs.Loading.{HasOtherSum, IsLoaded, IsRefusedBy, Stops}
use Rattle.kept_log.proofs.ReadOn.{ends_load, faults_load}

stops_load : (text : List ℕ) (fault : KeptFault) → AreBytes text → Stops text fault → load_at text ≡ Err fault
stops_load text fault are it =
    faults_load text it.tags it.units it.entries fault (bytes_front (front_text it.tags it.units it.entries) it.stops.rest (subst AreBytes it.stops.stand.parts are)) it.stops

other_sum : (text : List ℕ) → HasOtherSum text → load_at text ≡ Err HeadSum
unfolding load_at
other_sum text it =
    let read = it.read in
    ap (behind_head text) it.head
    ∙ ap (λ (right : Bool). cond right (loaded_of read.0.tags read.0.units (rest_at (length read.1) (length read.0.units) 0 (length text - length read.1) read.0.sum read.1)) (Err HeadSum))
    (ne_eqb read.0.sum (head_sum read.0.tags read.0.units) it.other)

pub refused_exact : (text : List ℕ) (fault : KeptFault) → AreBytes text → IsRefusedBy text fault → Loads (Err fault) (load_at text)
unfolding load_at
refused_exact text (Head fault) are it = inl (ap (behind_head text) it)
refused_exact text HeadSum are it = inl (other_sum text it)
refused_exact text (WrongRecord at) are it = inl (stops_load text (WrongRecord at) are it)
refused_exact text (BadBody at) are it = inl (stops_load text (BadBody at) are it)
refused_exact text (TooMany at) are it = inl (stops_load text (TooMany at) are it)
refused_exact text (WrongCount at) are it = inl (stops_load text (WrongCount at) are it)
refused_exact text (BehindEnd at) are it = inl (stops_load text (BehindEnd at) are it)
refused_exact text NoMemory are it = inr refl

pub loads_exact : (text : List ℕ) (result : Result Loaded KeptFault) → AreBytes text → IfOk result (IsLoaded text) → IfErr result (IsRefusedBy text)
    → Loads result (load_at text)
loads_exact text (Ok loaded) are is fails = ends_load text loaded.log.tags loaded.log.units loaded.log.entries loaded.log.ending loaded.torn are is.whole
loads_exact text (Err fault) are is fails = refused_exact text fault are fails
