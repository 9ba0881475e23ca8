-- The first words of commands.
use Rattle.std.specs.Prelude.{◌≡◌, ℕ, ◌<◌, Bool, true, false, List, [], ◌∷◌, Option, Some, None, codes}
use Rattle.std.specs.Map.{lookup}
use Rattle.std.specs.Str.{bytes_eq}
use Rattle.lj_wire.specs.declared.verb.Verb.{Verb}
use Rattle.lj_wire.specs.declared.verb.Verb.TheVariants as verb

-- the first word of each command
abbrev pub verbs : List (List ℕ × Verb)
verbs =
    (codes "LOAD", verb.Load)
    ∷ (codes "LOADMIX", verb.LoadMix)
    ∷ (codes "ADVANCE", verb.Advance)
    ∷ (codes "START", verb.Start)
    ∷ (codes "REVERSE", verb.Reverse)
    ∷ (codes "BRANCH", verb.Branch)
    ∷ (codes "RESTORE", verb.Restore)
    ∷ (codes "FORGET", verb.Forget)
    ∷ (codes "TUG", verb.Tug)
    ∷ (codes "MEASURE", verb.Measure)
    ∷ (codes "SHOW", verb.Show)
    ∷ (codes "DUMP", verb.Dump)
    ∷ (codes "LIST", verb.List)
    ∷ (codes "DROP", verb.Unload)
    ∷ (codes "BYE", verb.Bye)
    ∷ []

-- the verb that a word spells, if any
abbrev pub verb_of : List ℕ → Option Verb
verb_of word = lookup (bytes_eq word) verbs

-- a body follows the line of a load, and of no other command
abbrev pub has_body : Verb → Bool
has_body verb.Load = true
has_body verb.LoadMix = true
has_body _ = false

-- the verb, if there is one, is that of a load
abbrev pub is_load_verb : Option Verb → Bool
is_load_verb None = false
is_load_verb (Some verb) = has_body verb

-- a word is the verb of a load
abbrev pub is_load : List ℕ → Bool
is_load word = is_load_verb (verb_of word)

-- the first byte is a capital letter, and not the L of a load
pub record BeginsWithLetter (bytes : List ℕ) : Type 0 where
  pub first : ℕ
  pub others : List ℕ
  pub bytes_are : bytes ≡ first ∷ others
  pub letter : 64 < first
  pub no_load : first ≡ 76 → ⊥
