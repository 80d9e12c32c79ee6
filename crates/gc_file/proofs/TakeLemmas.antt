-- A garbled file that is taken from a source.
use Rattle.gc_file.proofs.Names.{◌≡◌, ℕ, ◌+◌, ◌*◌, inl, inr, List, ◌++◌, length, Option, Some, None, Result, Ok, Err, refl, length-append, arith, FileFault, GarbledParts, lasting, Fed, IsFed, IsAnswer, IsTaken, IsAnswerOfAll, IsTaking, append-nil, Consumes-trans, Consumes, MAX_GATES, MAX_WIRES, saturated_count}
use Rattle.gc_file.specs.declared.take.TakeFault.{TakeFault}
use Rattle.gc_file.specs.declared.take.TakeFault.TheVariants.{File, ReadFault}
use Rattle.gc_file.proofs.HeaderLemmas.{lasts}

-- More bytes than any file has.
abbrev pub most_bytes : ℕ
most_bytes = 128 + 32 * MAX_GATES + 33 * MAX_WIRES

-- How many bytes a reader was fed.
abbrev pub fed_length : Fed → ℕ
fed_length (Ok bytes) = length bytes
fed_length (Err e) = 0

-- What is returned of the bytes given is returned of all.
answer_of_all : (given left bytes : List ℕ) (result : Result GarbledParts TakeFault)
    → bytes ≡ given ++ left → IsAnswer given (Some left) result → IsAnswerOfAll bytes result
answer_of_all given left bytes (Ok parts) all (file, at_end) = rw (all, at_end, append-nil) file
answer_of_all given left bytes (Err (File fault)) all answer = λ other. elim (answer other) [
  | inl stays ↦ rw all (lasting fault (lasts given left fault stays))
  | inr (first, at_end) ↦ rw (all, at_end, append-nil) first
]
answer_of_all given left bytes (Err (ReadFault got)) all answer = tt

pub taken_all : (old new : Option (List ℕ)) (result : Result GarbledParts TakeFault)
    → IsTaken old new result → (bytes : List ℕ) → old ≡ Some bytes → IsAnswerOfAll bytes result
taken_all None new result taken bytes is = cc
taken_all (Some xs) None result taken bytes is = absurd taken.consumed
taken_all (Some xs) (Some left) result taken bytes is =
    answer_of_all taken.given left bytes result (let given = taken.consumed in cc) taken.answer

-- A piece that was given and fed.
pub taking_more : (reader after : Fed) (piece : List ℕ) (answer : Result (Unit {0}) FileFault)
    {a b d : Option (List ℕ)} {got more : ℕ}
    → IsTaking reader a b got → IsFed reader piece answer after
    → ((e : FileFault) → answer ≡ Err e → ⊥) → Consumes b d piece
    → more ≡ saturated_count (got + length piece) → IsTaking after a d more
taking_more reader after piece (Err e) taking fed not_err consumed count = absurd (not_err e refl)
taking_more reader after piece (Ok done) taking fed not_err consumed count =
    let more = rw taking.fed at fed in
    record {
      given = taking.given ++ piece;
      fed = more.0;
      consumed = Consumes-trans _ _ _ taking.given piece taking.consumed consumed;
      sound = more.1;
      count = omega (arith, length-append taking.given piece);
    }

-- A piece that was given, and has a fault.
pub taken_fault : (reader after : Fed) (piece : List ℕ) {e : FileFault}
    {a b d : Option (List ℕ)} {got : ℕ} → IsTaking reader a b got
    → IsFed reader piece (Err e) after → Consumes b d piece
    → IsTaken a d (Err (File e))
taken_fault reader after piece taking fed consumed =
    let more = rw taking.fed at fed in
    record {
      given = taking.given ++ piece;
      consumed = Consumes-trans _ _ _ taking.given piece taking.consumed consumed;
      answer = λ other. inl (more.1 other);
    }
