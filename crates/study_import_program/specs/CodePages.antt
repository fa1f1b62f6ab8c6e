-- Files in a code page of Windows, as UTF-8.
use Rattle.std.specs.Prelude.{ℕ, ◌+◌, ◌-◌, ◌*◌, ◌==◌, nat_le, nat_lt, List, ◌∷◌, ◌++◌, drop, codes, Option, Some, None, if◌then◌else◌}
use Rattle.std.specs.List.{flat_map}
use Rattle.std.specs.Option.{option_map}
use Rattle.std.specs.Char.{encode_utf8}
use lib.Utf8.{scalar}
use Rattle.study_import_program.specs.declared.code_page.CodePage.{CodePage}
use Rattle.study_import_program.specs.declared.code_page.CodePage.TheVariants.{CentralEuropean, Cyrillic, WestEuropean}
use Rattle.study_import_program.specs.declared.code_page.PageReader.{PageReader}

abbrev pub page_of : ℕ → Option CodePage
page_of n =
    if n == 1250 then Some CentralEuropean
    else (if n == 1251 then Some Cyrillic
    else (if n == 1252 then Some WestEuropean
    else None))

-- ---- the code points of the bytes from 80 on, four hexadecimal digits each; FFFD where the page has no character

-- 1250, of Central Europe
unfoldable pub central_european : List ℕ
central_european =
    codes "20AC FFFD 201A FFFD 201E 2026 2020 2021 FFFD 2030 0160 2039 015A 0164 017D 0179 "
    ++ codes "FFFD 2018 2019 201C 201D 2022 2013 2014 FFFD 2122 0161 203A 015B 0165 017E 017A "
    ++ codes "00A0 02C7 02D8 0141 00A4 0104 00A6 00A7 00A8 00A9 015E 00AB 00AC 00AD 00AE 017B "
    ++ codes "00B0 00B1 02DB 0142 00B4 00B5 00B6 00B7 00B8 0105 015F 00BB 013D 02DD 013E 017C "
    ++ codes "0154 00C1 00C2 0102 00C4 0139 0106 00C7 010C 00C9 0118 00CB 011A 00CD 00CE 010E "
    ++ codes "0110 0143 0147 00D3 00D4 0150 00D6 00D7 0158 016E 00DA 0170 00DC 00DD 0162 00DF "
    ++ codes "0155 00E1 00E2 0103 00E4 013A 0107 00E7 010D 00E9 0119 00EB 011B 00ED 00EE 010F "
    ++ codes "0111 0144 0148 00F3 00F4 0151 00F6 00F7 0159 016F 00FA 0171 00FC 00FD 0163 02D9"

-- 1251, Cyrillic
unfoldable pub cyrillic : List ℕ
cyrillic =
    codes "0402 0403 201A 0453 201E 2026 2020 2021 20AC 2030 0409 2039 040A 040C 040B 040F "
    ++ codes "0452 2018 2019 201C 201D 2022 2013 2014 FFFD 2122 0459 203A 045A 045C 045B 045F "
    ++ codes "00A0 040E 045E 0408 00A4 0490 00A6 00A7 0401 00A9 0404 00AB 00AC 00AD 00AE 0407 "
    ++ codes "00B0 00B1 0406 0456 0491 00B5 00B6 00B7 0451 2116 0454 00BB 0458 0405 0455 0457 "
    ++ codes "0410 0411 0412 0413 0414 0415 0416 0417 0418 0419 041A 041B 041C 041D 041E 041F "
    ++ codes "0420 0421 0422 0423 0424 0425 0426 0427 0428 0429 042A 042B 042C 042D 042E 042F "
    ++ codes "0430 0431 0432 0433 0434 0435 0436 0437 0438 0439 043A 043B 043C 043D 043E 043F "
    ++ codes "0440 0441 0442 0443 0444 0445 0446 0447 0448 0449 044A 044B 044C 044D 044E 044F"

-- 1252, of Western Europe
unfoldable pub west_european : List ℕ
west_european =
    codes "20AC FFFD 201A 0192 201E 2026 2020 2021 02C6 2030 0160 2039 0152 FFFD 017D FFFD "
    ++ codes "FFFD 2018 2019 201C 201D 2022 2013 2014 02DC 2122 0161 203A 0153 FFFD 017E 0178 "
    ++ codes "00A0 00A1 00A2 00A3 00A4 00A5 00A6 00A7 00A8 00A9 00AA 00AB 00AC 00AD 00AE 00AF "
    ++ codes "00B0 00B1 00B2 00B3 00B4 00B5 00B6 00B7 00B8 00B9 00BA 00BB 00BC 00BD 00BE 00BF "
    ++ codes "00C0 00C1 00C2 00C3 00C4 00C5 00C6 00C7 00C8 00C9 00CA 00CB 00CC 00CD 00CE 00CF "
    ++ codes "00D0 00D1 00D2 00D3 00D4 00D5 00D6 00D7 00D8 00D9 00DA 00DB 00DC 00DD 00DE 00DF "
    ++ codes "00E0 00E1 00E2 00E3 00E4 00E5 00E6 00E7 00E8 00E9 00EA 00EB 00EC 00ED 00EE 00EF "
    ++ codes "00F0 00F1 00F2 00F3 00F4 00F5 00F6 00F7 00F8 00F9 00FA 00FB 00FC 00FD 00FE 00FF"

abbrev pub table_of : CodePage → List ℕ
table_of CentralEuropean = central_european
table_of Cyrillic = cyrillic
table_of WestEuropean = west_european

-- `0` to `9` and `A` to `F`
abbrev pub hex_digit : ℕ → ℕ
hex_digit b = if nat_le 65 b then b - 55 else b - 48

abbrev pub code_of : List ℕ → ℕ
code_of (a ∷ b ∷ c ∷ d ∷ rest) = (hex_digit a * 16 + hex_digit b) * 256 + (hex_digit c * 16 + hex_digit d)
code_of other = 65533

-- U+FFFD for a number that no character has
abbrev pub character_with : ℕ → ℕ
character_with code = if scalar code then code else 65533

-- the character of a byte: the page's, or ASCII's
unfoldable pub character_of : CodePage → ℕ → ℕ
character_of page byte = if nat_lt byte 128 then byte else character_with (code_of (drop ((byte - 128) * 5) (table_of page)))

-- a text of this page in UTF-8
abbrev pub in_utf8 : CodePage → List ℕ → List ℕ
in_utf8 page bytes = flat_map (λ b. encode_utf8 (character_of page b)) bytes

-- ---- a reader

-- the bytes of the last character that were not returned
abbrev pub waiting : {R : Type 0} → PageReader R → List ℕ
waiting r = drop r.given (encode_utf8 r.character)

abbrev pub page_remaining : {R : Type 0} → (R → Option (List ℕ)) → PageReader R → Option (List ℕ)
page_remaining remaining r = option_map (λ bytes. waiting r ++ in_utf8 r.page bytes) (remaining r.inner)
