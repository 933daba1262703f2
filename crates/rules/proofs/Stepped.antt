-- All steps of a count at a place, one after another. Rests on Shows.
use Rattle.std.proofs.Common.{◌≡◌, ℕ, Bool, true, false, ◌||◌, List, [], ◌∷◌, sym, refl, ap, ◌∙◌, subst, true≢false}
use Rattle.std.proofs.lemmas.Bool.{false_from_ne_true, or_parts}
use Rattle.rules.specs.Kinds.{Kinds, Lawful}
use Rattle.rules.specs.States.{State, Place}
use Rattle.rules.specs.Moves.{on_left, on_right, Step, show, add, with_added, whole, shown, stepped_all}
use Rattle.rules.proofs.Weights.{neutral-right}
use Rattle.rules.proofs.Trees.{Tree, slot_of, inside, Drawn, drawn_frame}
use Rattle.rules.proofs.Children.{count_child}
use Rattle.rules.proofs.Pairs.{shown_pair}
use Rattle.rules.proofs.Hangs.{topped}
use Rattle.rules.proofs.Shares.{added, whole_of, steps_added}
use Rattle.rules.proofs.Shows.{TopOnce, TopAway, Counts, topped_count, inside_count, slot-count, once_count, steps-left, steps-right, shown_counts, shown-drawn, added_counts}

module _ {K T : Type 0} (w : Kinds K T) (l : Lawful w) where
  counts_none : (s : State K T) (t : ℕ) (touched : ℕ → Bool) → Counts w s s t w.none touched
  counts_none s t touched = record {
    rest = record { capacity = refl; requests = refl; asker = refl; decision = refl; desk = refl };
    place = refl;
    slot = refl;
    answer = refl;
    queue = λ i e. refl;
    others = λ i e. refl;
    tally = sym (neutral-right w l (s.counted t));
  }

  -- one after another
  counts_then : (s s' s'' : State K T) (t : ℕ) (x y : T) (near touched : ℕ → Bool) → ((i : ℕ) → touched i ≡ false → near i ≡ false)
      → Counts w s s' t x near → Counts w s' s'' t y touched → Counts w s s'' t (w.joined x y) touched
  counts_then s s' s'' t x y near touched sub c d = record {
    rest = record {
      capacity = d.rest.capacity ∙ c.rest.capacity;
      requests = d.rest.requests ∙ c.rest.requests;
      asker = d.rest.asker ∙ c.rest.asker;
      decision = d.rest.decision ∙ c.rest.decision;
      desk = d.rest.desk ∙ c.rest.desk;
    };
    place = d.place ∙ c.place;
    slot = d.slot ∙ c.slot;
    answer = d.answer ∙ c.answer;
    queue = λ i e. d.queue i e ∙ c.queue i (sub i e);
    others = λ i e. d.others i e ∙ c.others i e;
    tally = d.tally ∙ ap (λ v. w.joined v y) c.tally ∙ l.associative (s.counted t) x y;
  }

  -- more may count as touched
  widen : (t : ℕ) (s s' : State K T) (v : T) (near touched : ℕ → Bool) → ((i : ℕ) → touched i ≡ false → near i ≡ false) → Counts w s s' t v near → Counts w s s' t v touched
  widen t s s' v near touched sub c = record {
    rest = c.rest;
    place = c.place;
    slot = c.slot;
    answer = c.answer;
    queue = λ i e. c.queue i (sub i e);
    others = c.others;
    tally = c.tally;
  }

  -- a tree that was not touched stays drawn
  counts_frame : (s s' : State K T) (t : ℕ) (x : T) (touched : ℕ → Bool) (y : Tree K T) → Counts w s s' t x touched → ((i : ℕ) → touched i ≡ true → inside i y ≡ false) → Drawn s.place s.queue y → Drawn s'.place s'.queue y
  counts_frame s s' t x touched y c away d =
      drawn_frame s.place s'.place s.queue s'.queue y
      (λ i e. (ap (λ g. g i) c.place, c.queue i (false_from_ne_true (touched i) (λ h. true≢false (sym e ∙ away i h))))) d

  module _ (t : ℕ) (lo hi : K) (f : Place K T) where
    -- what the steps leave of the state and of the two children
    abbrev pub StepsLeave : State K T → List Step → Tree K T → Tree K T → Type 0
    StepsLeave s xs a b =
        Counts w s (stepped_all w s t lo hi f xs) t (steps_added w lo hi xs a b) (λ i. topped a i || topped b i)
        × Drawn (stepped_all w s t lo hi f xs).place (stepped_all w s t lo hi f xs).queue (shown_pair w t xs (a, b)).0
        × Drawn (stepped_all w s t lo hi f xs).place (stepped_all w s t lo hi f xs).queue (shown_pair w t xs (a, b)).1

    pub steps_leave : (xs : List Step) (s : State K T) (a b : Tree K T) → f.left ≡ slot_of a → f.right ≡ slot_of b
        → TopOnce a → TopOnce b → TopAway a b → TopAway b a
        → Drawn s.place s.queue a → Drawn s.place s.queue b → StepsLeave s xs a b
    steps_leave [] s a b ea eb oa ob ab ba da db = (counts_none s t _, da, db)
    steps_leave (show on_left m ∷ xs) s a b ea eb oa ob ab ba da db =
        let s' = shown w s t lo hi m f.left in
        let one : Counts w s (shown w s t lo hi m f.left) t (added w lo hi m a) (topped a) = subst (λ z. Counts w s (shown w s t lo hi m z) t (added w lo hi m a) (topped a)) (sym ea) (shown_counts w l t lo hi s m a) in
        let drawn-a : Drawn s'.place s'.queue (count_child w t m a) = subst (λ z. Drawn (shown w s t lo hi m z).place (shown w s t lo hi m z).queue (count_child w t m a)) (sym ea) (shown-drawn w l t lo hi s m a oa da) in
        let drawn-b = counts_frame s s' t (added w lo hi m a) (topped a) b one ab db in
        let rest = steps_leave xs s' (count_child w t m a) b (ea ∙ sym (slot-count w t m a)) eb (once_count w t m a oa) ob
        (λ i e. ab i (sym (topped_count w t m a i) ∙ e)) (λ i e. inside_count w t m a i ∙ ba i e) drawn-a drawn-b in
        let sums : Counts w s' (stepped_all w s' t lo hi f xs) t (steps_added w lo hi xs a b) (λ i. topped a i || topped b i) = subst (λ v. Counts w s' (stepped_all w s' t lo hi f xs) t v (λ i. topped a i || topped b i)) (steps-left w t m lo hi xs a b) (widen t s' (stepped_all w s' t lo hi f xs) _ (λ i. topped (count_child w t m a) i || topped b i) (λ i. topped a i || topped b i) (λ i e. ap (λ v. v || topped b i) (topped_count w t m a i) ∙ e) rest.0) in
        (counts_then s s' (stepped_all w s' t lo hi f xs) t (added w lo hi m a) (steps_added w lo hi xs a b) (topped a) (λ i. topped a i || topped b i) (λ i e. (or_parts (topped a i) (topped b i) e).0) one sums, rest.1, rest.2)
    steps_leave (show on_right m ∷ xs) s a b ea eb oa ob ab ba da db =
        let s' = shown w s t lo hi m f.right in
        let one : Counts w s (shown w s t lo hi m f.right) t (added w lo hi m b) (topped b) = subst (λ z. Counts w s (shown w s t lo hi m z) t (added w lo hi m b) (topped b)) (sym eb) (shown_counts w l t lo hi s m b) in
        let drawn-b : Drawn s'.place s'.queue (count_child w t m b) = subst (λ z. Drawn (shown w s t lo hi m z).place (shown w s t lo hi m z).queue (count_child w t m b)) (sym eb) (shown-drawn w l t lo hi s m b ob db) in
        let drawn-a = counts_frame s s' t (added w lo hi m b) (topped b) a one ba da in
        let rest = steps_leave xs s' a (count_child w t m b) ea (eb ∙ sym (slot-count w t m b)) oa (once_count w t m b ob)
        (λ i e. inside_count w t m b i ∙ ab i e) (λ i e. ba i (sym (topped_count w t m b i) ∙ e)) drawn-a drawn-b in
        let sums : Counts w s' (stepped_all w s' t lo hi f xs) t (steps_added w lo hi xs a b) (λ i. topped a i || topped b i) = subst (λ v. Counts w s' (stepped_all w s' t lo hi f xs) t v (λ i. topped a i || topped b i)) (steps-right w t m lo hi xs a b) (widen t s' (stepped_all w s' t lo hi f xs) _ (λ i. topped a i || topped (count_child w t m b) i) (λ i. topped a i || topped b i) (λ i e. ap (λ v. topped a i || v) (topped_count w t m b i) ∙ e) rest.0) in
        (counts_then s s' (stepped_all w s' t lo hi f xs) t (added w lo hi m b) (steps_added w lo hi xs a b) (topped b) (λ i. topped a i || topped b i) (λ i e. (or_parts (topped a i) (topped b i) e).1) one sums, rest.1, rest.2)
    steps_leave (add on_left ∷ xs) s a b ea eb oa ob ab ba da db =
        let s' = with_added w s t (whole w s f.left) in
        let one : Counts w s (with_added w s t (whole w s f.left)) t (whole_of w a) (λ i. false) = subst (λ z. Counts w s (with_added w s t (whole w s z)) t (whole_of w a) (λ i. false)) (sym ea) (added_counts w l t lo hi s a da) in
        let rest = steps_leave xs s' a b ea eb oa ob ab ba da db in
        (counts_then s s' (stepped_all w s' t lo hi f xs) t (whole_of w a) (steps_added w lo hi xs a b) (λ i. false) (λ i. topped a i || topped b i) (λ i e. refl) one rest.0, rest.1, rest.2)
    steps_leave (add on_right ∷ xs) s a b ea eb oa ob ab ba da db =
        let s' = with_added w s t (whole w s f.right) in
        let one : Counts w s (with_added w s t (whole w s f.right)) t (whole_of w b) (λ i. false) = subst (λ z. Counts w s (with_added w s t (whole w s z)) t (whole_of w b) (λ i. false)) (sym eb) (added_counts w l t lo hi s b db) in
        let rest = steps_leave xs s' a b ea eb oa ob ab ba da db in
        (counts_then s s' (stepped_all w s' t lo hi f xs) t (whole_of w b) (steps_added w lo hi xs a b) (λ i. false) (λ i. topped a i || topped b i) (λ i e. refl) one rest.0, rest.1, rest.2)
