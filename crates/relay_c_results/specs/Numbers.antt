-- A view as numbers.
-- Assumes nothing: these are definitions.
use Rattle.std.specs.Prelude.{ℕ, List, [], ◌∷◌, ◌++◌, ℤ, pos, negsuc}
use Rattle.opmsg.specs.declared.Section.{Section}
use Rattle.opmsg.specs.declared.Section.TheVariants.{None, Body, Sequence}
use Rattle.opmsg.specs.declared.Entry.{Entry}
use Rattle.opmsg.specs.declared.View.{View}

-- the numbers of an entry: its kind, -1 for none; an identifier's start and length; the start and the length of what it holds, and the number of documents
unfoldable pub section_numbers : Section → List ℤ
section_numbers None = negsuc 0 ∷ pos 0 ∷ pos 0 ∷ pos 0 ∷ pos 0 ∷ pos 0 ∷ []
section_numbers (Body range) = pos 0 ∷ pos 0 ∷ pos 0 ∷ pos range.start ∷ pos range.length ∷ pos 0 ∷ []
section_numbers (Sequence identifier documents number) =
    pos 1 ∷ pos identifier.start ∷ pos identifier.length ∷ pos documents.start ∷ pos documents.length ∷ pos number ∷ []

-- of a list of entries, and of a view
unfoldable pub list_numbers : List Entry → List ℤ
list_numbers [] = []
list_numbers (x ∷ xs) = section_numbers x.section ++ list_numbers xs

unfoldable pub view_numbers : View → List ℤ
view_numbers v = pos v.length ∷ v.request_id ∷ v.response_to ∷ pos v.flags ∷ pos v.elements ∷ list_numbers v.entries

-- how many numbers a view has
unfoldable pub view_size : ℕ
view_size = 107
