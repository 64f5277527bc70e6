-- The listing of a whole stream, and what lets a program list a stream while it comes.
-- Assumes nothing: these are definitions.
use Rattle.std.specs.Prelude.{ℕ, zero, suc, ◌+◌, true, false, ◌≡◌, List, [], ◌∷◌, ◌++◌, length, drop, ltb}
use Rattle.opmsg.specs.Ping.{ping}
use Rattle.listing_lines.specs.Lines.{version, first_line, message_line, big_line, bad_line, end_line}
use Rattle.listing_lines.specs.Words.{ascii}
use Rattle.listing_lines.specs.declared.Summary.{Summary}
use Rattle.listing.specs.Next.{short, next}
use Rattle.listing.specs.declared.Step.TheVariants.{Message, Big, Bad, More, End}

-- what a listing tells between its first and its last line: a message that was read, one that was passed over, or the refusal
pub data Entry : Type 0 where
  message : Summary → Entry
  big : (length : ℕ) → Entry
  bad : (number place : ℕ) → Entry

-- what is told of the rest s of a stream that has ended, in at most so many turns; a stream that ends inside a passed message gives 3 at 0
unfoldable pub entries_of : (turns : ℕ) → List ℕ → List Entry
entries_of zero s = []
entries_of (suc turns) s =
    elim (next true s) [
      | Message m ↦ message m ∷ entries_of turns (drop m.length s)
      | Big n ↦ elim (ltb (length s) n) [ true ↦ bad 3 0 ∷ [] | false ↦ big n ∷ entries_of turns (drop n s) ]
      | Bad number place ↦ bad number place ∷ []
      | More ↦ []
      | End ↦ []
    ]

unfoldable pub entries : List ℕ → List Entry
entries s = entries_of (suc (length s)) s

-- how many messages are told of
unfoldable pub messages_of : List Entry → ℕ
messages_of [] = 0
messages_of (message m ∷ es) = suc (messages_of es)
messages_of (big n ∷ es) = suc (messages_of es)
messages_of (bad number place ∷ es) = messages_of es

-- the lines of entries, where the messages before them take `offset` bytes
unfoldable pub lines : (offset : ℕ) → List Entry → List ℕ
lines offset [] = []
lines offset (message m ∷ es) = message_line offset m ++ lines (offset + m.length) es
lines offset (big n ∷ es) = big_line offset n ++ lines (offset + n) es
lines offset (bad number place ∷ es) = bad_line offset number place ++ lines offset es

-- a whole listing
unfoldable pub listed : (version : ℕ) → List Entry → List ℕ
listed version es = first_line version ++ lines 0 es ++ end_line (messages_of es)

unfoldable pub listing : List ℕ → List ℕ
listing s = listed version (entries s)

-- what is answered without waiting stands, whatever comes behind it
abbrev pub Settled : Type 0
Settled = (s later : List ℕ) → short s ≡ false → next true (s ++ later) ≡ next false s

-- document 01's example: its ping and three stray bytes
abbrev pub ping_and_three : List ℕ
ping_and_three = ping ++ 97 ∷ 98 ∷ 99 ∷ []

abbrev pub its_lines : List ℕ
its_lines = ascii "relay-log\t2\nmsg\t0\t36\t7\t0\t0\t0\t1\nbad\t36\t1\t0\nend\t1\n"

abbrev pub Example : Type 0
Example = listing ping_and_three ≡ its_lines
