-- What the words of a line make of it.
use Rattle.std.proofs.Common.{◌≡◌, ℕ, false, List, [], ◌∷◌, refl}
use Rattle.lj_session.specs.declared.body.LoadBody.{LoadBody}
use Rattle.lj_wire.specs.declared.item.Fault.TheVariants.{Syntax}
use Rattle.lj_wire.specs.declared.item.Item.{Item}
use Rattle.lj_wire.specs.declared.item.Item.TheVariants.{Bad}
use Rattle.lj_wire.specs.Verbs.{verb_of}
use Rattle.lj_wire.specs.Commands.{Words, verb_item, verb_body_len, item_of_words}
use Rattle.lj_wire.specs.Commands.{body_len, is_over, words_in, body_len_announced, item_with}

-- the item of a line, and how many bytes of body follow it
pub record Says (line : List ℕ) (body : LoadBody) (item : Item) (len : ℕ) : Type 0 where
  pub item_is : item ≡ item_with line body
  pub len_is : len ≡ body_len_announced line

pub says_empty : (line : List ℕ) (body : LoadBody) → is_over line ≡ false → words_in line ≡ []
    → Says line body (Bad Syntax) 0
unfolding item_of_words body_len
says_empty line body short e = record { item_is = rw (short, e) refl; len_is = rw (short, e) refl }

pub says_words : (line word : List ℕ) (words : Words) (body : LoadBody) → is_over line ≡ false
    → words_in line ≡ word ∷ words
    → Says line body (verb_item (verb_of word) words body) (verb_body_len (verb_of word) words)
unfolding item_of_words body_len
says_words line word words body short e = record { item_is = rw (short, e) refl; len_is = rw (short, e) refl }
