-- What is printed for a line.
use Rattle.std.specs.Prelude.{◌≡◌, ℕ, ◌+◌, ◌%◌, ◌^◌, Bool, cond, not, ◌&&◌, List, length, Some, None, Ok, Err, Option, Result, ◌==◌, nat_le, nat_lt}
use Rattle.std.specs.Option.{option_map}
use Rattle.refusal.specs.declared.Refusal.{Refusal}
use Rattle.refusal.specs.declared.Refusal.TheVariants.{KeyLength, IvLength, PositionLimit, BadLine}
use Rattle.refusal.specs.Numbers.{numbered}
use Rattle.cover.specs.Lists.{streamed}
use Rattle.cryptmt.specs.Wide.{wide_byte}
use Rattle.digits.specs.Digits.{spelled}
use Rattle.digits.specs.Refusals.{refusal_text}
use Rattle.query.specs.declared.Kind.{Kind}
use Rattle.query.specs.declared.Kind.TheVariants.{Wide}
use Rattle.query.specs.Queries.{Asked, query_of}

-- the keystream byte of a kind at a position
abbrev pub byte_of : Kind → List ℕ → List ℕ → ℕ → ℕ
byte_of Wide = wide_byte

-- the keystream bytes that a query asks for
abbrev pub bytes_of : Asked → List ℕ
bytes_of q = streamed (byte_of q.kind q.key q.iv) q.from q.count

-- whether a key or an IV has 1 to 16 rows of 16 bytes
abbrev pub lawful : List ℕ → Bool
lawful bytes = nat_le 16 (length bytes) && nat_le (length bytes) 256 && length bytes % 16 == 0

-- why a query is refused, if it is
abbrev pub refusal_of : Asked → Option Refusal
refusal_of q =
    cond (not (lawful q.key)) (Some KeyLength)
    (cond (not (lawful q.iv)) (Some IvLength)
    (cond (nat_lt (2 ^ 32) (q.from + q.count)) (Some PositionLimit) None))

-- how the bytes of a query are written: all of them, or it is refused
abbrev pub Streams : Asked → Result (Unit {0}) Refusal → List ℕ → Type 0
Streams q (Ok _) bytes = (refusal_of q ≡ None) × (bytes ≡ bytes_of q)
Streams q (Err e) bytes = option_map numbered (refusal_of q) ≡ Some (numbered e)

-- the text of a refusal, or else the bytes of a query in hex
abbrev pub answered : Asked → Option Refusal → List ℕ
answered q None = spelled (bytes_of q)
answered q (Some e) = refusal_text e

abbrev pub answer_of : Asked → List ℕ
answer_of q = answered q (refusal_of q)

-- what is printed for a query, or where there is none
abbrev pub printed : Option Asked → List ℕ
printed None = refusal_text BadLine
printed (Some q) = answer_of q

-- what is printed for a line
abbrev pub printed_of : List ℕ → List ℕ
printed_of line = printed (query_of line)
