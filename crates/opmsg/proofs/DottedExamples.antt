-- Worked examples of dotted texts and of what they find. Texts are in ASCII; a dot is 46.
-- Assumes nothing.
use Prim.Native.Nat.{ℕ}
use mathlib.Core.Bool.{true, false}
use mathlib.Core.Path.{◌≡◌, refl}
use mathlib.Core.List.{List, [], ◌∷◌, ◌++◌, map}
use Rattle.wire.specs.Outcome.{refuse, ◌>>=◌}
use Rattle.wire.specs.Bytes.{word, under, until_zero, one_of}
use Rattle.utf8.specs.Utf8.{forms}
use Rattle.utf8.specs.Text.{starts, character_of, characters_of, well_formed, text_at}
use Rattle.bson_values.specs.Value.{sized, string, code_with_scope, table, rule_in}
use Rattle.bson_elements.specs.Element.{max_elements, head, inside, element, size_of, element_size}
use Rattle.opmsg.specs.Names.{same_text, among, name_text, element_names, texts, names_of}
use Rattle.opmsg.specs.Dotted.{until_dot, elements_within, some_within, follow, found}

-- `run`, a document with `points`, the document `sub` with `x`, and the array `arr` with `0` and `x`
abbrev run : List ℕ
run =
    3 ∷ 114 ∷ 117 ∷ 110 ∷ 0 ∷ 46 ∷ 0 ∷ 0 ∷ 0
    ∷ 16 ∷ 112 ∷ 111 ∷ 105 ∷ 110 ∷ 116 ∷ 115 ∷ 0 ∷ 1 ∷ 0 ∷ 0 ∷ 0
    ∷ 3 ∷ 115 ∷ 117 ∷ 98 ∷ 0 ∷ 8 ∷ 0 ∷ 0 ∷ 0 ∷ 10 ∷ 120 ∷ 0 ∷ 0
    ∷ 4 ∷ 97 ∷ 114 ∷ 114 ∷ 0 ∷ 11 ∷ 0 ∷ 0 ∷ 0 ∷ 10 ∷ 48 ∷ 0 ∷ 10 ∷ 120 ∷ 0 ∷ 0
    ∷ 0 ∷ []

-- `twice`, a document with `d`, the document `d` with `q`, and the document `d` with `r`
abbrev twice : List ℕ
twice =
    3 ∷ 116 ∷ 119 ∷ 105 ∷ 99 ∷ 101 ∷ 0 ∷ 30 ∷ 0 ∷ 0 ∷ 0
    ∷ 10 ∷ 100 ∷ 0
    ∷ 3 ∷ 100 ∷ 0 ∷ 8 ∷ 0 ∷ 0 ∷ 0 ∷ 10 ∷ 113 ∷ 0 ∷ 0
    ∷ 3 ∷ 100 ∷ 0 ∷ 8 ∷ 0 ∷ 0 ∷ 0 ∷ 10 ∷ 114 ∷ 0 ∷ 0
    ∷ 0 ∷ []

-- the empty name, a document with the empty name and `a`
abbrev unnamed : List ℕ
unnamed = 3 ∷ 0 ∷ 10 ∷ 0 ∷ 0 ∷ 0 ∷ 10 ∷ 0 ∷ 10 ∷ 97 ∷ 0 ∷ 0 ∷ []

-- `one.two`, the array `list` with `0`, the code `code` whose scope has `v`, and `flat`
abbrev others : List ℕ
others =
    10 ∷ 111 ∷ 110 ∷ 101 ∷ 46 ∷ 116 ∷ 119 ∷ 111 ∷ 0
    ∷ 4 ∷ 108 ∷ 105 ∷ 115 ∷ 116 ∷ 0 ∷ 8 ∷ 0 ∷ 0 ∷ 0 ∷ 10 ∷ 48 ∷ 0 ∷ 0
    ∷ 15 ∷ 99 ∷ 111 ∷ 100 ∷ 101 ∷ 0 ∷ 17 ∷ 0 ∷ 0 ∷ 0 ∷ 1 ∷ 0 ∷ 0 ∷ 0 ∷ 0 ∷ 8 ∷ 0 ∷ 0 ∷ 0 ∷ 10 ∷ 118 ∷ 0 ∷ 0
    ∷ 10 ∷ 102 ∷ 108 ∷ 97 ∷ 116 ∷ 0 ∷ []

abbrev elements : List ℕ
elements = run ++ (twice ++ (unnamed ++ others))

-- the last name, of any type, is found: `run.points`, `run.arr`, `run.sub.x`, `twice.d`, `twice.d.q`, `twice.d.r`, `.`, `.a`, `flat`
leading :
    map (found elements) ((114 ∷ 117 ∷ 110 ∷ 46 ∷ 112 ∷ 111 ∷ 105 ∷ 110 ∷ 116 ∷ 115 ∷ [])
    ∷ (114 ∷ 117 ∷ 110 ∷ 46 ∷ 97 ∷ 114 ∷ 114 ∷ [])
    ∷ (114 ∷ 117 ∷ 110 ∷ 46 ∷ 115 ∷ 117 ∷ 98 ∷ 46 ∷ 120 ∷ [])
    ∷ (116 ∷ 119 ∷ 105 ∷ 99 ∷ 101 ∷ 46 ∷ 100 ∷ [])
    ∷ (116 ∷ 119 ∷ 105 ∷ 99 ∷ 101 ∷ 46 ∷ 100 ∷ 46 ∷ 113 ∷ [])
    ∷ (116 ∷ 119 ∷ 105 ∷ 99 ∷ 101 ∷ 46 ∷ 100 ∷ 46 ∷ 114 ∷ [])
    ∷ (46 ∷ [])
    ∷ (46 ∷ 97 ∷ [])
    ∷ (102 ∷ 108 ∷ 97 ∷ 116 ∷ [])
    ∷ [])
    ≡ true ∷ true ∷ true ∷ true ∷ true ∷ true ∷ true ∷ true ∷ true ∷ []
unfolding ◌>>=◌ refuse forms starts character_of characters_of well_formed text_at word under until_zero one_of sized string code_with_scope table rule_in max_elements head inside element size_of element_size same_text among name_text element_names texts names_of until_dot elements_within some_within follow found
leading = refl

-- it is not there, or a name before it is not that of a document of type 03: `run.other`, `run.points.x`, `run.arr.x`, `twice.d.s`, `list.0`, `code.v`, `flat.x`, `points`, `d.q`
lost :
    map (found elements) ((114 ∷ 117 ∷ 110 ∷ 46 ∷ 111 ∷ 116 ∷ 104 ∷ 101 ∷ 114 ∷ [])
    ∷ (114 ∷ 117 ∷ 110 ∷ 46 ∷ 112 ∷ 111 ∷ 105 ∷ 110 ∷ 116 ∷ 115 ∷ 46 ∷ 120 ∷ [])
    ∷ (114 ∷ 117 ∷ 110 ∷ 46 ∷ 97 ∷ 114 ∷ 114 ∷ 46 ∷ 120 ∷ [])
    ∷ (116 ∷ 119 ∷ 105 ∷ 99 ∷ 101 ∷ 46 ∷ 100 ∷ 46 ∷ 115 ∷ [])
    ∷ (108 ∷ 105 ∷ 115 ∷ 116 ∷ 46 ∷ 48 ∷ [])
    ∷ (99 ∷ 111 ∷ 100 ∷ 101 ∷ 46 ∷ 118 ∷ [])
    ∷ (102 ∷ 108 ∷ 97 ∷ 116 ∷ 46 ∷ 120 ∷ [])
    ∷ (112 ∷ 111 ∷ 105 ∷ 110 ∷ 116 ∷ 115 ∷ [])
    ∷ (100 ∷ 46 ∷ 113 ∷ [])
    ∷ [])
    ≡ false ∷ false ∷ false ∷ false ∷ false ∷ false ∷ false ∷ false ∷ false ∷ []
unfolding ◌>>=◌ refuse forms starts character_of characters_of well_formed text_at word under until_zero one_of sized string code_with_scope table rule_in max_elements head inside element size_of element_size same_text among name_text element_names texts names_of until_dot elements_within some_within follow found
lost = refl

-- an empty name beside a dot matches only an empty name, and names are parted at every dot: `..`, `run.`, `.run`, `.points`, `run..points`, `one.two`
parted :
    map (found elements) ((46 ∷ 46 ∷ [])
    ∷ (114 ∷ 117 ∷ 110 ∷ 46 ∷ [])
    ∷ (46 ∷ 114 ∷ 117 ∷ 110 ∷ [])
    ∷ (46 ∷ 112 ∷ 111 ∷ 105 ∷ 110 ∷ 116 ∷ 115 ∷ [])
    ∷ (114 ∷ 117 ∷ 110 ∷ 46 ∷ 46 ∷ 112 ∷ 111 ∷ 105 ∷ 110 ∷ 116 ∷ 115 ∷ [])
    ∷ (111 ∷ 110 ∷ 101 ∷ 46 ∷ 116 ∷ 119 ∷ 111 ∷ [])
    ∷ [])
    ≡ false ∷ false ∷ false ∷ false ∷ false ∷ false ∷ []
unfolding ◌>>=◌ refuse forms starts character_of characters_of well_formed text_at word under until_zero one_of sized string code_with_scope table rule_in max_elements head inside element size_of element_size same_text among name_text element_names texts names_of until_dot elements_within some_within follow found
parted = refl
