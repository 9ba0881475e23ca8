-- How many lines replies have, and the first lines of a text written.
use Rattle.std.proofs.Common.{◌≡◌, ℕ, zero, suc, ◌+◌, ◌<◌, ◌≤◌, List, [], ◌∷◌, ◌++◌, length, map, take, drop, get_or}
use Rattle.std.proofs.Common.{slice_get, Option, Some, None, inl, inr, refl, sym, ap, ◌∙◌, subst, arith}
use Rattle.std.specs.Prelude.{IfSome}
use Rattle.std.specs.List.{concat}
use Rattle.std.specs.Option.{option_map}
use Rattle.std.specs.Io.KnownBytes.{Appends}
use Rattle.std.proofs.KnownBytes.{Appends-trans}
use Rattle.std.proofs.lemmas.List.{append-nil, length-append, length-map, take-append-drop, take-append-le, take_all}
use Rattle.std.proofs.lemmas.List.{drop_more, take_more}
use Rattle.std.proofs.lemmas.List.Folds.{concat-append}
use Rattle.std.proofs.lemmas.Option.{slice_get_within, get_or_from_slice_get, none-some, slice_get-get_or}
use Rattle.std.proofs.lemmas.Bool.{cases_lt}
use Rattle.lj_ring.specs.Mix.{edge_of}
use Rattle.lj_ring.specs.declared.coordinates.Place.{Place}
use Rattle.lj_step.specs.Sim.{Sim}
use Rattle.lj_step.specs.Motion.{Simulation}
use Rattle.lj_session.specs.declared.reply.Reply.{Reply}
use Rattle.lj_session.specs.declared.reply.Reply.TheVariants.{Dumped, Listed, ListedBranches}
use Rattle.lj_session.specs.UserState.{LiveSession, settled_session}
use Rattle.lj_session.specs.Users.{User}
use Rattle.lj_session.proofs.PendingSteps.{count-meant}
use Rattle.lj_wire.specs.ReplyTexts.{atom_lines, dump_lines, branch_lines, branch_line, reply_lines}

atom_lines-few : (edge : ℕ) (symbols : List (List ℕ)) (places : List Place)
    → length (atom_lines edge symbols places) ≤ length places
atom_lines-few edge [] places = omega arith
atom_lines-few edge (symbol ∷ symbols) [] = omega arith
atom_lines-few edge (symbol ∷ symbols) (place ∷ places) = let rest = atom_lines-few edge symbols places in omega arith

-- the lines of the frame of a session that is meant
pub dump-few : (entry : Option LiveSession) (live : Sim) (name : List ℕ) (count : ℕ)
    → option_map (λ session. session.live) entry ≡ Some live → count ≡ length live.sim.cur
    → IfSome entry (λ session. length (dump_lines name (Some (settled_session session))) ≤ count + 2 + 1)
dump-few None live name count is counted = tt
dump-few (Some session) live name count is counted =
    let same : session.live ≡ live = cc in
    let meant = (settled_session session).sim.cur in
    let few = atom_lines-few (edge_of session.live.composition.mix) session.symbols meant in
    let atoms : count ≡ length meant =
    counted ∙ ap (λ l. length l.sim.cur) (sym same) ∙ sym (count-meant session) in
    omega (arith, few, atoms)

-- the lines of what is saved in a session that is meant
pub branches-few : (entry : Option LiveSession) (saved : List (List ℕ × Simulation)) (name : List ℕ) (count : ℕ)
    → option_map (λ session. session.saved) entry ≡ Some saved → count ≡ length saved
    → IfSome entry (λ session. length (branch_lines name (Some (settled_session session))) ≤ count + 1)
branches-few None saved name count is counted = tt
branches-few (Some session) saved name count is counted =
    let same : session.saved ≡ saved = cc in
    let lines : length (map branch_line session.saved) ≡ length session.saved = length-map session.saved branch_line in
    let all : count ≡ length session.saved = counted ∙ ap length (sym same) in
    omega (arith, lines, all)

-- the first bytes of two texts
take-front : (xs ys : List ℕ) (n m : ℕ) → m ≡ length xs + n → take m (xs ++ ys) ≡ xs ++ take n ys
take-front [] ys n m e = ap (λ m. take m ys) (e ∙ omega arith)
take-front (x ∷ xs) ys n zero e = absurd (omega arith)
take-front (x ∷ xs) ys n (suc m) e = ap (λ zs. x ∷ zs) (take-front xs ys n m (omega arith))

-- some lines are written, and then a line
module _ (lines : List (List ℕ)) (k : ℕ) (line : List ℕ) (there : slice_get lines k ≡ Some line) where
  within : k < length lines
  within = slice_get_within lines k line there

  line_is : get_or lines k [] ≡ line
  line_is = get_or_from_slice_get lines k line [] there

  pub line_more : concat (take (k + 1) lines) ≡ concat (take k lines) ++ line
  line_more =
      ap concat (take_more lines k [] within)
      ∙ concat-append (take k lines) (get_or lines k [] ∷ [])
      ∙ ap (λ l. concat (take k lines) ++ (l ++ [])) line_is
      ∙ ap (λ l. concat (take k lines) ++ l) (append-nil line)

  all_is : concat lines ≡ concat (take k lines) ++ (line ++ concat (drop (k + 1) lines))
  all_is =
      ap concat (sym (take-append-drop k lines))
      ∙ concat-append (take k lines) (drop k lines)
      ∙ ap (λ ls. concat (take k lines) ++ concat ls) (drop_more lines k [] within)
      ∙ ap (λ l. concat (take k lines) ++ (l ++ concat (drop (k + 1) lines))) line_is

  -- a part of the line
  pub line_part : (n : ℕ) → n ≤ length line → (was mid is : Option (List ℕ)) (text : List ℕ) → text ≡ concat lines
      → Appends was mid (concat (take k lines)) → Appends mid is (take n line)
      → (m : ℕ) × (m ≤ length text) × Appends was is (take m text)
  line_part n few was mid is text same first second =
      let front = concat (take k lines) in
      let count : length text ≡ length (concat (take k lines)) + (length line + length (concat (drop (k + 1) lines))) =
      ap length (same ∙ all_is)
      ∙ length-append (concat (take k lines)) (line ++ concat (drop (k + 1) lines))
      ∙ ap (λ n. length (concat (take k lines)) + n) (length-append line (concat (drop (k + 1) lines))) in
      let bytes : take (length (concat (take k lines)) + n) text ≡ concat (take k lines) ++ take n line =
      ap (take (length (concat (take k lines)) + n)) (same ∙ all_is)
      ∙ take-front (concat (take k lines)) (line ++ concat (drop (k + 1) lines)) n
      (length (concat (take k lines)) + n) refl
      ∙ ap (λ t. concat (take k lines) ++ t) (take-append-le n line (concat (drop (k + 1) lines)) few) in (
        length (concat (take k lines)) + n,
        omega (arith, count, few),
        subst (Appends was is) (sym bytes) (Appends-trans was mid is (concat (take k lines))
            (take n line) first second),
      )

-- all lines are written
pub lines_all : (lines : List (List ℕ)) (k : ℕ) → length lines ≤ k → concat (take k lines) ≡ concat lines
lines_all lines k all = ap concat (take_all k lines all)

pub lines_past : (lines : List (List ℕ)) (k : ℕ) → slice_get lines k ≡ None → length lines ≤ k
lines_past lines k none =
    elim (cases_lt k (length lines)) [
      | inl within ↦ absurd (none-some (get_or lines k []) (sym none ∙ slice_get-get_or lines k [] within))
      | inr past ↦ past
    ]

-- a reply other than to DUMP and LIST has one line
pub one_line : (user : User) (reply : Reply) → ((name : List ℕ) → reply ≡ Dumped name → ⊥) → (reply ≡ Listed → ⊥)
    → ((name : List ℕ) → reply ≡ ListedBranches name → ⊥)
    → length (reply_lines user reply) ≤ 1
unfolding reply_lines
one_line user (Dumped name) dumped listed branches = absurd (dumped name refl)
one_line user Listed dumped listed branches = absurd (listed refl)
one_line user (ListedBranches name) dumped listed branches = absurd (branches name refl)
one_line user reply dumped listed branches = omega arith
