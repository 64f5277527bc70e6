-- Stored listings, read.
-- Assumes nothing.
use Prim.Native.Nat.{ℕ}
use mathlib.Core.Path.{◌≡◌, refl}
use mathlib.Core.List.{[], ◌∷◌, map}
use Rattle.wire.specs.Outcome.{Outcome, ok, refused, refuse, ◌>>=◌}
use Rattle.wire.specs.Walk.{walk}
use Rattle.opmsg.specs.Names.{same_text}
use Rattle.listing_lines.specs.Decimal.{digits, decimal, signed_decimal}
use Rattle.listing_lines.specs.Words.{ascii}
use Rattle.listing_lines.specs.Fields.{line}
use Rattle.listing_lines.specs.Lines.{first_line}
use Rattle.listing_stored.specs.Version.{versions}
use Rattle.listing_fields.specs.Numbers.{until_newline, ahead, fields_of, spelled, spelled_signed, is_signed32, number, between, signed_number}
use Rattle.listing_stored.specs.Stored.{message, big, bad, end, kinds, rule_of, line_at, version_of, Told, read_listing}

abbrev shown : (version messages : ℕ) → Outcome Told
shown version messages = ok (record { version = version; messages = messages })

-- document 01's example in both versions; nothing listed; `bad` at once; `big`; the largest numbers of each field
accepted :
    map (λ s. read_listing (ascii s)) ("relay-log\t1\nmsg\t0\t36\t7\t0\t0\t0\t1\nbad\t36\t1\t0\nend\t1\n"
    ∷ "relay-log\t2\nmsg\t0\t36\t7\t0\t0\t0\t1\nbad\t36\t1\t0\nend\t1\n"
    ∷ "relay-log\t1\nend\t0\n"
    ∷ "relay-log\t2\nbad\t0\t99\t18446744073709551615\nend\t0\n"
    ∷ "relay-log\t2\nbig\t0\t65537\nmsg\t65537\t26\t0\t0\t0\t0\t0\nbig\t65563\t48000000\nend\t3\n"
    ∷ "relay-log\t1\nmsg\t0\t49152\t2147483647\t-2147483648\t18446744073709551615\t16\t4096\nend\t1\n"
    ∷ "relay-log\t2\nmsg\t0\t65536\t-1\t0\t0\t16\t262144\nend\t1\n"
    ∷ [])
    ≡ shown 1 1 ∷ shown 2 1 ∷ shown 1 0 ∷ shown 2 0 ∷ shown 2 3 ∷ shown 1 1 ∷ shown 2 1 ∷ []
unfolding ◌>>=◌ refuse walk same_text digits decimal signed_decimal line first_line versions until_newline ahead fields_of spelled spelled_signed is_signed32 number between signed_number message big bad end kinds rule_of line_at version_of read_listing
accepted = refl

-- nothing at all; no newline; another version, and one with a leading zero; a second field too many; another word
first :
    map (λ s. read_listing (ascii s)) (""
    ∷ "relay-log\t1"
    ∷ "relay-log\t3\nend\t0\n"
    ∷ "relay-log\t01\nend\t0\n"
    ∷ "relay-log\t1\t\nend\t0\n"
    ∷ "relay log\t1\nend\t0\n"
    ∷ "\n"
    ∷ [])
    ≡ refused 38 1 ∷ refused 38 1 ∷ refused 38 1 ∷ refused 38 1 ∷ refused 38 1 ∷ refused 38 1 ∷ refused 38 1 ∷ []
unfolding ◌>>=◌ refuse walk same_text digits decimal signed_decimal line first_line versions until_newline ahead fields_of spelled spelled_signed is_signed32 number between signed_number message big bad end kinds rule_of line_at version_of read_listing
first = refl

-- no second line; none behind a message; none behind `bad`; a last line without its newline; a line after `end`, also an empty one
missing :
    map (λ s. read_listing (ascii s)) ("relay-log\t2\n"
    ∷ "relay-log\t2\nmsg\t0\t36\t7\t0\t0\t0\t1\n"
    ∷ "relay-log\t2\nbad\t0\t1\t0\n"
    ∷ "relay-log\t2\nmsg\t0\t36\t7\t0\t0\t0\t1\nend\t1"
    ∷ "relay-log\t2\nend\t0\nend\t0\n"
    ∷ "relay-log\t2\nend\t0\n\n"
    ∷ "relay-log\t2\nend\t0\nx"
    ∷ [])
    ≡ refused 38 2 ∷ refused 38 3 ∷ refused 38 3 ∷ refused 38 3 ∷ refused 38 3 ∷ refused 38 3 ∷ refused 38 3 ∷ []
unfolding ◌>>=◌ refuse walk same_text digits decimal signed_decimal line first_line versions until_newline ahead fields_of spelled spelled_signed is_signed32 number between signed_number message big bad end kinds rule_of line_at version_of read_listing
missing = refl

-- `end` counts one too many; a message behind `bad`; a second `bad`; an offset that does not run on, also of `bad`; an unknown word, and an empty line
order :
    map (λ s. read_listing (ascii s)) ("relay-log\t2\nmsg\t0\t36\t7\t0\t0\t0\t1\nend\t2\n"
    ∷ "relay-log\t2\nbad\t0\t1\t0\nmsg\t0\t36\t7\t0\t0\t0\t1\nend\t1\n"
    ∷ "relay-log\t2\nbad\t0\t1\t0\nbad\t0\t1\t0\nend\t0\n"
    ∷ "relay-log\t2\nmsg\t0\t36\t7\t0\t0\t0\t1\nmsg\t35\t36\t7\t0\t0\t0\t1\nend\t2\n"
    ∷ "relay-log\t2\nmsg\t0\t36\t7\t0\t0\t0\t1\nbad\t0\t1\t0\nend\t1\n"
    ∷ "relay-log\t2\ngap\t0\t5\nend\t0\n"
    ∷ "relay-log\t2\n\nend\t0\n"
    ∷ [])
    ≡ refused 38 3 ∷ refused 38 3 ∷ refused 38 3 ∷ refused 38 3 ∷ refused 38 3 ∷ refused 38 2 ∷ refused 38 2 ∷ []
unfolding ◌>>=◌ refuse walk same_text digits decimal signed_decimal line first_line versions until_newline ahead fields_of spelled spelled_signed is_signed32 number between signed_number message big bad end kinds rule_of line_at version_of read_listing
order = refl

-- lengths, sequences and elements past the limits of each version; `big` in version 1, and its lengths
limits :
    map (λ s. read_listing (ascii s)) ("relay-log\t1\nmsg\t0\t25\t7\t0\t0\t0\t1\nend\t1\n"
    ∷ "relay-log\t1\nmsg\t0\t49153\t7\t0\t0\t0\t1\nend\t1\n"
    ∷ "relay-log\t2\nmsg\t0\t65537\t7\t0\t0\t0\t1\nend\t1\n"
    ∷ "relay-log\t1\nmsg\t0\t36\t7\t0\t0\t17\t1\nend\t1\n"
    ∷ "relay-log\t1\nmsg\t0\t36\t7\t0\t0\t0\t4097\nend\t1\n"
    ∷ "relay-log\t2\nmsg\t0\t36\t7\t0\t0\t0\t262145\nend\t1\n"
    ∷ "relay-log\t1\nbig\t0\t65537\nend\t1\n"
    ∷ "relay-log\t2\nbig\t0\t65536\nend\t1\n"
    ∷ "relay-log\t2\nbig\t0\t48000001\nend\t1\n"
    ∷ [])
    ≡ refused 38 2 ∷ refused 38 2 ∷ refused 38 2 ∷ refused 38 2 ∷ refused 38 2 ∷ refused 38 2 ∷ refused 38 2 ∷ refused 38 2 ∷ refused 38 2 ∷ []
unfolding ◌>>=◌ refuse walk same_text digits decimal signed_decimal line first_line versions until_newline ahead fields_of spelled spelled_signed is_signed32 number between signed_number message big bad end kinds rule_of line_at version_of read_listing
limits = refl

-- ids past 32 bits; −0, a plus sign, a leading zero, also behind the minus sign, no digit, a space; a minus sign where none may stand; flags past 64 bits; a field too few and one too many
numbers :
    map (λ s. read_listing (ascii s)) ("relay-log\t1\nmsg\t0\t36\t2147483648\t0\t0\t0\t1\nend\t1\n"
    ∷ "relay-log\t1\nmsg\t0\t36\t7\t-2147483649\t0\t0\t1\nend\t1\n"
    ∷ "relay-log\t1\nmsg\t0\t36\t-0\t0\t0\t0\t1\nend\t1\n"
    ∷ "relay-log\t1\nmsg\t0\t36\t+7\t0\t0\t0\t1\nend\t1\n"
    ∷ "relay-log\t1\nmsg\t0\t36\t07\t0\t0\t0\t1\nend\t1\n"
    ∷ "relay-log\t1\nmsg\t0\t36\t-07\t0\t0\t0\t1\nend\t1\n"
    ∷ "relay-log\t1\nmsg\t0\t36\t\t0\t0\t0\t1\nend\t1\n"
    ∷ "relay-log\t1\nmsg\t0\t36\t-\t0\t0\t0\t1\nend\t1\n"
    ∷ "relay-log\t1\nmsg\t0\t36\t7 \t0\t0\t0\t1\nend\t1\n"
    ∷ "relay-log\t1\nmsg\t0\t36\t7\t0\t-1\t0\t1\nend\t1\n"
    ∷ "relay-log\t1\nmsg\t0\t36\t7\t0\t18446744073709551616\t0\t1\nend\t1\n"
    ∷ "relay-log\t1\nmsg\t00\t36\t7\t0\t0\t0\t1\nend\t1\n"
    ∷ "relay-log\t1\nmsg\t0\t36\t7\t0\t0\t0\nend\t1\n"
    ∷ "relay-log\t1\nmsg\t0\t36\t7\t0\t0\t0\t1\t\nend\t1\n"
    ∷ "relay-log\t1\nend\t00\n"
    ∷ [])
    ≡ refused 38 2 ∷ refused 38 2 ∷ refused 38 2 ∷ refused 38 2 ∷ refused 38 2 ∷ refused 38 2 ∷ refused 38 2 ∷ refused 38 2 ∷ refused 38 2 ∷ refused 38 2 ∷ refused 38 2 ∷ refused 38 2 ∷ refused 38 2 ∷ refused 38 2 ∷ refused 38 2 ∷ []
unfolding ◌>>=◌ refuse walk same_text digits decimal signed_decimal line first_line versions until_newline ahead fields_of spelled spelled_signed is_signed32 number between signed_number message big bad end kinds rule_of line_at version_of read_listing
numbers = refl
