use Rattle.std.proofs.Common.{◌≡◌, ℕ, List, length, Some, codes, refl, ap, sym, ◌∙◌, rules}
use Rattle.std.proofs.lemmas.Slice.Eq.{HasBytesAt, text_from_reads}
use Rattle.lj_wire.specs.declared.verb.Verb.{Verb}
use Rattle.lj_wire.specs.Verbs.{verb_of}
use Rattle.lj_wire.proofs.verb.Verb.parse.Goals as goal

-- a word of these bytes is the first word that they are
of_bytes : (word bytes : List ℕ) (verb : Verb) → length word ≡ length bytes
    → HasBytesAt word 0 bytes → Some verb ≡ verb_of bytes
    → Some verb ≡ verb_of word
of_bytes word bytes verb long has found = found ∙ ap verb_of (sym (text_from_reads word bytes long has))

pub returns-in-LOADMIX : goal.returns-in-LOADMIX
returns-in-LOADMIX c = of_bytes c.args.word.now (codes "LOADMIX") _ (search rules) (search rules) refl

pub returns-in-ADVANCE : goal.returns-in-ADVANCE
returns-in-ADVANCE c = of_bytes c.args.word.now (codes "ADVANCE") _ (search rules) (search rules) refl

pub returns-in-REVERSE : goal.returns-in-REVERSE
returns-in-REVERSE c = of_bytes c.args.word.now (codes "REVERSE") _ (search rules) (search rules) refl

pub returns-in-BRANCH : goal.returns-in-BRANCH
returns-in-BRANCH c = of_bytes c.args.word.now (codes "BRANCH") _ (search rules) (search rules) refl

pub returns-in-RESTORE : goal.returns-in-RESTORE
returns-in-RESTORE c = of_bytes c.args.word.now (codes "RESTORE") _ (search rules) (search rules) refl

pub returns-in-FORGET : goal.returns-in-FORGET
returns-in-FORGET c = of_bytes c.args.word.now (codes "FORGET") _ (search rules) (search rules) refl

pub returns-in-MEASURE : goal.returns-in-MEASURE
returns-in-MEASURE c = of_bytes c.args.word.now (codes "MEASURE") _ (search rules) (search rules) refl
