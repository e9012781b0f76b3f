-- Prometheus' text format, version 0.0.4: families of samples, each with a line of help and one of its type.
use Rattle.std.specs.Prelude.{ℕ, List, [], ◌∷◌, ◌++◌, Option, Some, None, nat_eq, codes, if◌then◌else◌}
use Rattle.std.specs.List.{flat_map}

pub record Label : Type 0 where
  pub name : List ℕ
  pub value : List ℕ

-- a value, and what is added to the family's name for it
pub record Sample : Type 0 where
  pub suffix : List ℕ
  pub label : Option Label
  pub value : List ℕ

pub record Family : Type 0 where
  pub name : List ℕ
  pub kind : List ℕ
  pub help : List ℕ
  pub samples : List Sample

-- of the value of a label a backslash, a quote and a line feed are escaped
abbrev pub escaped_byte : ℕ → List ℕ
escaped_byte byte =
    if nat_eq byte 92 then codes "\\\\"
    else if nat_eq byte 34 then codes "\\\""
    else if nat_eq byte 10 then codes "\\n"
    else byte ∷ []

abbrev pub escaped : List ℕ → List ℕ
escaped value = flat_map escaped_byte value

-- `{name="value"}`
abbrev pub label_text : Option Label → List ℕ
label_text None = []
label_text (Some label) = codes "{" ++ label.name ++ codes "=\"" ++ escaped label.value ++ codes "\"}"

abbrev pub sample_text : List ℕ → Sample → List ℕ
sample_text name sample = name ++ sample.suffix ++ label_text sample.label ++ codes " " ++ sample.value ++ codes "\n"

-- a line about a family
abbrev pub line_text : List ℕ → List ℕ → List ℕ → List ℕ
line_text word name rest = word ++ name ++ codes " " ++ rest ++ codes "\n"

-- the two lines before the samples
abbrev pub head_text : List ℕ → List ℕ → List ℕ → List ℕ
head_text name kind help = line_text (codes "# HELP ") name help ++ line_text (codes "# TYPE ") name kind

abbrev pub family_text : Family → List ℕ
family_text family = head_text family.name family.kind family.help ++ flat_map (sample_text family.name) family.samples
