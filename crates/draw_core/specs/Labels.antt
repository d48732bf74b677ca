-- An id as the text of an XML element (XML 1.0, sections 2.2 and 2.4).
use Rattle.std.specs.Prelude.{◌==◌, ℕ, Bool, List, ◌||◌, ◌&&◌, not, codes, nat_le, if◌then◌else◌}
use Rattle.std.specs.Prelude.{chars}
use Rattle.std.specs.List.{flat_map}
use Rattle.std.specs.Char.{encode_utf8}

-- a character of XML text: tab, line feed, carriage return, and each from U+0020 except U+FFFE and
-- U+FFFF (text in UTF-8 has no surrogates)
abbrev pub is_xml_char : ℕ → Bool
is_xml_char c =
    c == 9 || c == 10 || c == 13 || (nat_le 32 c && (not (c == 65534) && not (c == 65535)))

-- `&`, `<`, `>`, `"` and `'` as references, and U+FFFD for characters that XML forbids
abbrev pub label_char : ℕ → List ℕ
label_char c =
    if c == 38 then codes "&amp;"
    else if c == 60 then codes "&lt;"
    else if c == 62 then codes "&gt;"
    else if c == 34 then codes "&quot;"
    else if c == 39 then codes "&apos;"
    else if is_xml_char c then encode_utf8 c
    else encode_utf8 65533

-- the id, character by character
abbrev pub label : List ℕ → List ℕ
label id = flat_map label_char (chars id)
