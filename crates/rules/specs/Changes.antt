-- Single changes of a state: each writes one thing and leaves all others.
use Rattle.std.specs.Prelude.{ℕ, Bool, cond, List, [], ◌∷◌, ◌++◌, Some, Option, ◌==◌}
use Rattle.requests.specs.declared.answer.Answer.{Answer}
use Rattle.requests.specs.declared.request.Request.{Request}
use Rattle.rules.specs.declared.mode.Mode.{Mode}
use Rattle.rules.specs.declared.note.Note.{Note}
use Rattle.rules.specs.States.{State, Slot, Place, Waiter, Desk}

-- a row with one entry written
abbrev pub put : {X : Type 0} → (ℕ → X) → ℕ → X → ℕ → X
put f n x i = cond (i == n) x (f i)

module _ {K T : Type 0} (s : State K T) where
  -- one request more
  abbrev pub with_request : ℕ → ℕ → Request K → State K T
  with_request t station r = record {
    capacity = s.capacity;
    requests = s.requests ++ (r ∷ []);
    asker = put s.asker t station;
    decision = s.decision;
    answer = s.answer;
    counted = s.counted;
    slot = s.slot;
    place = s.place;
    queue = s.queue;
    desk = s.desk;
  }

  abbrev pub with_decision : ℕ → Bool → State K T
  with_decision t d = record {
    capacity = s.capacity;
    requests = s.requests;
    asker = s.asker;
    decision = put s.decision t (Some d);
    answer = s.answer;
    counted = s.counted;
    slot = s.slot;
    place = s.place;
    queue = s.queue;
    desk = s.desk;
  }

  abbrev pub with_answer : ℕ → Answer T → State K T
  with_answer t a = record {
    capacity = s.capacity;
    requests = s.requests;
    asker = s.asker;
    decision = s.decision;
    answer = put s.answer t (Some a);
    counted = s.counted;
    slot = s.slot;
    place = s.place;
    queue = s.queue;
    desk = s.desk;
  }

  abbrev pub with_counted : ℕ → T → State K T
  with_counted t sum = record {
    capacity = s.capacity;
    requests = s.requests;
    asker = s.asker;
    decision = s.decision;
    answer = s.answer;
    counted = put s.counted t sum;
    slot = s.slot;
    place = s.place;
    queue = s.queue;
    desk = s.desk;
  }

  abbrev pub with_gate : Slot K → State K T
  with_gate x = record {
    capacity = s.capacity;
    requests = s.requests;
    asker = s.asker;
    decision = s.decision;
    answer = s.answer;
    counted = s.counted;
    slot = x;
    place = s.place;
    queue = s.queue;
    desk = s.desk;
  }

  abbrev pub with_place : ℕ → Place K T → State K T
  with_place p f = record {
    capacity = s.capacity;
    requests = s.requests;
    asker = s.asker;
    decision = s.decision;
    answer = s.answer;
    counted = s.counted;
    slot = s.slot;
    place = put s.place p (Some f);
    queue = s.queue;
    desk = s.desk;
  }

  abbrev pub with_queue : ℕ → List Waiter → State K T
  with_queue p q = record {
    capacity = s.capacity;
    requests = s.requests;
    asker = s.asker;
    decision = s.decision;
    answer = s.answer;
    counted = s.counted;
    slot = s.slot;
    place = s.place;
    queue = put s.queue p q;
    desk = s.desk;
  }

  abbrev pub with_desk : ℕ → Desk → State K T
  with_desk n d = record {
    capacity = s.capacity;
    requests = s.requests;
    asker = s.asker;
    decision = s.decision;
    answer = s.answer;
    counted = s.counted;
    slot = s.slot;
    place = s.place;
    queue = s.queue;
    desk = put s.desk n d;
  }

  -- the station's note, its uncollected request left as it is
  abbrev pub with_note : ℕ → Note → State K T
  with_note n x = with_desk n (record { note = x; uncollected = (s.desk n).uncollected })

  -- the station's uncollected request, its note left as it is
  abbrev pub with_uncollected : ℕ → Option ℕ → State K T
  with_uncollected n t = with_desk n (record { note = (s.desk n).note; uncollected = t })

  -- a request joins a queue at its end
  abbrev pub with_waiter : ℕ → ℕ → Mode → State K T
  with_waiter p t m = with_queue p (s.queue p ++ (record { number = t; mode = m } ∷ []))
