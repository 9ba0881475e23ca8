-- Visits one after the other, and a last one: their texts, joined.
use Rattle.std.proofs.Common.{◌≡◌, ℕ, List, [], ◌∷◌, ◌++◌, take, drop, take-append-drop, sym, ap, ◌∙◌, subst}
use Rattle.std.specs.List.{concat}
use Rattle.std.proofs.lemmas.List.{append-nil, append_assoc}
use Rattle.std.proofs.lemmas.List.Folds.{concat-append}
use Rattle.lj_quota.specs.declared.Quota.{Quota}
use Rattle.lj_session.specs.Users.{User, fresh_user}
use Rattle.lj_session.specs.UserState.{empty_state, user_of}
use Rattle.lj_wire.specs.Streams.{AreMarks}
use Rattle.lj_wire.specs.Told.{texts}
use Rattle.lj_wire.proofs.Progressing.{marks-length, texts-length}
use Rattle.lj_engine.specs.declared.served.Served.{Served}
use Rattle.lj_engine.specs.declared.served.Served.TheVariants.{End, Bye, Ended, ReadFault, WriteFault, PoolClosed, TooManyStrays}
use Rattle.lj_end.specs.Seen.{nothing_seen}
use Rattle.lj_visit.specs.Behind.{IsCutShort, IsSent}
use Rattle.lj_visit.specs.VisitLaws.{Attendance, LastVisit, IsLastVisit, Follow, NoneFails, AreOnePrefix, all_written}
use Rattle.lj_visit.proofs.Joining.{texts-join, AreMarks-join}
use Rattle.lj_visit.proofs.Folding.{fold_all}
use Rattle.lj_visit.proofs.Behind.{own_of}

cut-behind : (front replies : List (List ℕ)) (earlier written : List ℕ) → earlier ≡ concat front → IsCutShort replies written
    → IsCutShort (front ++ replies) (earlier ++ written)
cut-behind front replies earlier written before cut =
    let begun = take cut.bytes cut.last in
    record {
      others = front ++ cut.others;
      last = cut.last;
      bytes = cut.bytes;
      texts = ap (λ xs. front ++ xs) cut.texts ∙ sym (append_assoc front cut.others (cut.last ∷ []));
      within = cut.within;
      written_is = ap (λ xs. xs ++ written) before ∙ ap (λ xs. concat front ++ xs) cut.written_is
          ∙ sym (append_assoc (concat front) (concat cut.others) begun)
          ∙ ap (λ xs. xs ++ begun) (sym (concat-append front cut.others));
    }

whole-behind : (front replies : List (List ℕ)) (earlier written : List ℕ) → earlier ≡ concat front → written ≡ concat replies
    → earlier ++ written ≡ concat (front ++ replies)
whole-behind front replies earlier written before whole =
    ap (λ xs. xs ++ written) before ∙ ap (λ xs. concat front ++ xs) whole ∙ sym (concat-append front replies)

sent-behind : (served : Served) (front replies : List (List ℕ)) (earlier written : List ℕ) → earlier ≡ concat front
    → IsSent served replies written → IsSent served (front ++ replies) (earlier ++ written)
sent-behind End front replies earlier written before sent = whole-behind front replies earlier written before sent
sent-behind Bye front replies earlier written before sent = whole-behind front replies earlier written before sent
sent-behind Ended front replies earlier written before sent = whole-behind front replies earlier written before sent
sent-behind ReadFault front replies earlier written before sent = whole-behind front replies earlier written before sent
sent-behind WriteFault front replies earlier written before sent = cut-behind front replies earlier written before sent
sent-behind PoolClosed front replies earlier written before sent = whole-behind front replies earlier written before sent
sent-behind TooManyStrays front replies earlier written before sent = whole-behind front replies earlier written before sent

-- the written bytes are a prefix of the replies
abbrev IsFront : List (List ℕ) → List ℕ → Type 0
IsFront replies written = (rest : List ℕ) × (concat replies ≡ written ++ rest)

front-whole : (replies : List (List ℕ)) (written : List ℕ) → written ≡ concat replies → IsFront replies written
front-whole replies written whole = ([], sym whole ∙ sym (append-nil written))

front-cut : (replies : List (List ℕ)) (written : List ℕ) → IsCutShort replies written → IsFront replies written
front-cut replies written cut =
    let begun = take cut.bytes cut.last in
    let rest = drop cut.bytes cut.last in (
      rest,
      ap concat cut.texts ∙ concat-append cut.others (cut.last ∷ []) ∙ ap (λ xs. concat cut.others ++ xs) (append-nil cut.last)
          ∙ ap (λ xs. concat cut.others ++ xs) (sym (take-append-drop cut.bytes cut.last))
          ∙ sym (append_assoc (concat cut.others) begun rest) ∙ ap (λ xs. xs ++ rest) (sym cut.written_is),
    )

front-sent : (served : Served) (replies : List (List ℕ)) (written : List ℕ) → IsSent served replies written
    → IsFront replies written
front-sent End replies written sent = front-whole replies written sent
front-sent Bye replies written sent = front-whole replies written sent
front-sent Ended replies written sent = front-whole replies written sent
front-sent ReadFault replies written sent = front-whole replies written sent
front-sent WriteFault replies written sent = front-cut replies written sent
front-sent PoolClosed replies written sent = front-whole replies written sent
front-sent TooManyStrays replies written sent = front-whole replies written sent

pub one_prefix : (quota : Quota) (visits : List Attendance) (last : LastVisit) → Follow (empty_state quota) visits last.state
    → IsLastVisit last → AreOnePrefix quota visits last
one_prefix quota visits last follow is =
    let fresh = fresh_user quota in
    let folds = fold_all (empty_state quota) visits last.state follow in
    let own = own_of last.served last.state last.read last.written nothing_seen last.seen last.next is in
    let front = texts fresh folds.items folds.marks in
    let replies = texts (user_of last.state) own.items own.marks in
    let same = marks-length folds.marks front folds.are_marks ∙ texts-length fresh folds.items folds.marks in
    let joined : texts fresh (folds.items ++ own.items) (folds.marks ++ own.marks) ≡ front ++ replies =
    texts-join fresh folds.items own.items folds.marks own.marks same
    ∙ ap (λ (u : User). front ++ texts u own.items own.marks) (sym folds.last_is) in
    let sends : NoneFails visits
    → IsSent last.served (texts fresh (folds.items ++ own.items) (folds.marks ++ own.marks)) (all_written visits ++ last.written) =
    λ none. subst (λ answers. IsSent last.served answers (all_written visits ++ last.written)) (sym joined)
    (sent-behind last.served front replies (all_written visits) last.written (folds.written_is none) own.sent) in
    record {
      earlier = folds.items;
      earlier_marks = folds.marks;
      answers = folds.answers;
      items = own.items;
      marks = own.marks;
      answered = own.answered;
      are_marks =
          subst (AreMarks (folds.marks ++ own.marks)) (sym joined)
          (AreMarks-join folds.marks own.marks front replies folds.are_marks own.are_marks);
      sent = sends;
      prefix = λ none.
          front-sent last.served (texts fresh (folds.items ++ own.items) (folds.marks ++ own.marks))
          (all_written visits ++ last.written) (sends none);
    }
