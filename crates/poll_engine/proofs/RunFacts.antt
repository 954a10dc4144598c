-- What the parts of a run imply for its stations.
use Rattle.std.proofs.{lemmas.Grind.common_steps, lemmas.List.get_or_default}
use Rattle.std.proofs.{lemmas.List.Elements.recursion_from_All, lemmas.Option.same_Some}
use Rattle.std.proofs.Common.{◌≡◌, ◌≢◌, ℕ, zero, suc, ◌≤◌, ◌<◌, Bool, true, false, None, is_some, List, [], ◌∷◌, ◌++◌, sym, ap, ◌∙◌}
use Rattle.std.proofs.Common.{refl, subst, Some, All, arith, rules, get_or, length}
use Rattle.std.specs.{Prelude.{filter, map, not, vec_items, vec_len}, List.{AllByRecursion, AllZip}, Global.Vec}
use Rattle.poll_engine.specs.{Asks.{WasLet, IsAsked}, Trails.questions, Acts.{after_acts, arrivals}, Questions.all_questions}
use Rattle.poll_engine.specs.Runs.{HasRun, Ledger, Whose, WorksBy, IsEnded, blank, controller_number, worker_number}
use Rattle.poll_engine.specs.{Deals.{is_dealt, is_own, poller_by}, Hands.listings, Ends.{IsFinishOf, IsKeptFinishOf}}
use Rattle.poll_engine.specs.{declared.station.Station.Station, declared.station.Finished.Finished}
use Rattle.poll_engine.specs.{declared.worker.InterruptWorker.InterruptWorker, declared.worker.InterruptHandler.InterruptHandler}
use Rattle.poll_engine.specs.declared.{worker.WorkerHandles.WorkerHandles, setup.opening.{Loose.Loose, Placed.Placed}}
use Rattle.poll_engine.specs.{declared.acts.Act.Act, Works.{IsDoneBy, IsWorked, ledger_of, whose}, Handles.{AreAtRest, is_on, pass_of}}
use Rattle.poll_engine.specs.{Opens.{IsHome, IsInputOf, IsKeptLoose, IsKeptPartOf, IsKeptSideOf, IsLoose}, declared.list_in.ListIn.ListIn}
use Rattle.poll_engine.specs.{declared.shared.SharedList.SharedList, Tasks.{EachAt, IsAt}, declared.setup.signals.Waker.Waker}
use Rattle.poll_engine.specs.{declared.setup.context.RunContext.RunContext, declared.setup.context.PollLimits.PollLimits}
use Rattle.poll_engine.specs.{SeatKeeping.{AreSameSeats, IsSameSeat}, Turns.{TurnsAlone, TurnsByRun, has_no_thread}}
use Rattle.poll_engine.specs.{declared.handle.PollHandle.PollHandle, declared.poller.Poller.Poller}
use Rattle.poll_engine.specs.{declared.list_poller.ListPoller.ListPoller, declared.thread_poller.ThreadPoller.ThreadPoller}
use Rattle.poll_engine.specs.Gives.{IsPolled}
use Rattle.poll_engine.specs.Courses.{ArePolled, Course, HasPolled, HasTurned, HaveRun, IsCourse, IsFreshSeat, Pushes}
use Rattle.poll_engine.specs.{Courses.{TakesTurns, TurnsIfThread}, Finishes.{IsFinished, IsWorkedOf}}
use Rattle.poll_engine.specs.Spreads.{AreEndsOf, ArePollers, IsEndOf, IsJobAt, IsKeptJobOf, IsKeptSeatFor, IsKeptThreadFor, IsNewEnd}
use Rattle.poll_engine.specs.Spreads.{IsPoller, IsSeatAt, IsThreadAt, IsWiredJob, IsWiredSide, own_seats}
use Rattle.poll_engine.specs.Outcomes.{AreLeftBy, AreSeatsAt, IsLeftBy, IsSeatWith, IsThreadWith, Outcome}
use Rattle.poll_engine.proofs.ListFacts.{at_mapped, at_place, each_zip, zip_and, zip_both, zip_filtered, zip_flip, zip_right}
use Rattle.poll_engine.proofs.{ListFacts.zip_same, SeatFacts.{served_alone, served_keeps}}
use Rattle.rx_ring.specs.{Ends.{SameIn, capacity_of, put_list}, ReceiveRing.{bytes_of, capped}, declared.ends.RxIn.RxIn}
use Rattle.rx_ring.specs.declared.packet.Packet.{Packet}
use Rattle.napi_calls.specs.{declared.kept.DropBomb.DropBomb, declared.types.Caller.Caller, declared.types.Napi.Napi, Instance.IsSeatOf}
use Rattle.napi_calls.specs.Seats.{pass_number, own_list}

-- the types of the pollers with a list, and of the threads of instances
abbrev OwnPoller : Type 0 → Type 0 → Type 0
OwnPoller R G = Poller R G (ListPoller R)

abbrev OwnThread : Type 0 → Type 0 → Type 0
OwnThread R G = Poller R G (ThreadPoller R)

same_ring : (a b c : RxIn) (napi : Napi) → b ≡ a → SameIn b c → IsInputOf a napi → IsInputOf c napi
same_ring a b c napi e s h = let whole : IsInputOf b napi = subst (λ (r : RxIn). IsInputOf r napi) (sym e) h in
    (whole.0, whole.1, search rules)

capped_small : (n : ℕ) → n ≤ 4294967295 → capped n ≡ n
capped_small n h = omega arith

-- the state of a station's worker after all its acts
module _ {R D G : Type 0} {acts : D → ℕ} {answer : D → ℕ → Act} {after : D → ℕ → D} {answers : ℕ → ℕ → Bool → Type 0}
    {lists : List (SharedList R)} {pollers : ℕ} {station : Station D} {loose : DropBomb R (Loose D)} {worked : InterruptWorker R D G}
    {poller : DropBomb R PollHandle} {thread : OwnThread R G} {left : Loose D} {end : Finished D} (opened : IsLoose station loose.value)
    (made : IsWorkedOf acts answer after answers lists pollers loose worked) (whole : worked.stop ≡ None)
    (taken : IsLeftBy worked poller thread left) (ended : IsFinishOf left end) where
  run_of : HasRun answer after station.capacity station.thread station.device (acts station.device) end.closed end.totals
  run_of =
      let work = made.before in
      let done = made.is in
      let new = opened.unused in
      let device : work.device ≡ station.device = made.device ∙ opened.same_device in
      let left = ledger_of worked.handles.value worked.rx in
      let w : Whose =
      record { caller = worker_number; controller = controller_number; places = station.capacity; thread = station.thread } in
      let number : pass_number work.handles.value.caller.pass ≡ worker_number =
      ap (λ (h : WorkerHandles). pass_number h.caller.pass) made.handles ∙ new.caller.number_is in
      let controller : pass_number (pass_of work.handles.value.control) ≡ controller_number =
      ap (λ (h : WorkerHandles). pass_number (pass_of h.control)) made.handles ∙ new.number in
      let same_whose : whose work.handles.value work.rx (loose.value.has_thread) ≡ w = λ i. record {
        caller = number i;
        controller = controller i;
        places = (ap (λ (r : RxIn). capacity_of r) made.rx ∙ opened.places) i;
        thread = opened.thread i;
      } in
      let nothing : ledger_of work.handles.value work.rx ≡ blank = λ i. record {
        calls = (ap (λ (h : WorkerHandles). own_list h.caller.pass) made.handles ∙ new.caller.nothing_done) i;
        controls = (ap (λ (h : WorkerHandles). own_list (pass_of h.control)) made.handles ∙ new.control) i;
        put = (ap (λ (r : RxIn). put_list r) made.rx ∙ opened.nothing_put) i;
        on = (ap (λ (h : WorkerHandles). is_on h.control) made.handles ∙ new.off) i;
        threaded = (ap (λ (h : WorkerHandles). h.threaded) made.handles ∙ new.unthreaded) i;
      } in
      let by_whose =
      subst (λ (v : Whose). WorksBy v answer after work.device (acts work.device) (ledger_of work.handles.value work.rx) left)
      same_whose (done.run whole) in
      let by_device =
      subst (λ (d : D). WorksBy w answer after d (acts d) (ledger_of work.handles.value work.rx) left) device by_whose in
      let as_worker = ap (λ (c : Caller). c.pass) (ended.of.worker_is ∙ ap (λ (h : WorkerHandles). h.caller) taken.handles) in
      let as_control = ap (λ c. pass_of c) (sym ended.of.control_is ∙ ap (λ (h : WorkerHandles). h.control) taken.handles) in
      record {
        left = left;
        works = subst (λ (l : Ledger). WorksBy w answer after station.device (acts station.device) l left) nothing by_device;
        numbers = (
          ap (λ p. pass_number p) as_worker ∙ done.same.0 ∙ number,
          ap (λ p. pass_number p) as_control ∙ done.same.1 ∙ controller,
        );
        calls_are = ap (λ p. own_list p) as_worker;
        controls_are = ap (λ p. own_list p) as_control;
        ended = subst (λ (r : RxIn). IsEnded end.closed (put_list r) end.totals) taken.rx ended.ended;
        few = subst (λ n. end.totals.left ≤ n) (ap (λ (r : RxIn). capacity_of r) taken.rx ∙ done.ring.1
            ∙ ap (λ (r : RxIn). capacity_of r) made.rx ∙ opened.places) ended.few;
      }

  pushes_of : Pushes lists pollers station.number end.closed.worker.value
  pushes_of =
      let new = made.list in
      let pushed = made.is.lists in
      let none : own_list made.before.handles.value.caller.pass ≡ [] =
      ap (λ (h : WorkerHandles). own_list h.caller.pass) made.handles ∙ opened.unused.caller.nothing_done in
      let did : own_list worked.handles.value.caller.pass ≡ pushed.did = pushed.grown ∙ ap (λ l. l ++ pushed.did) none in
      record {
        list = new.0;
        there = subst (λ n. IsAt lists (poller_by pollers n) new.0) opened.same_number new.1;
        end = worked.out.list;
        of = pushed.same.0 ∙ new.2.0;
        pushed = pushed.pushed ∙ ap (λ l. l ++ listings made.before.handler.number pushed.did) new.2.1
            ∙ ap (λ n. listings n pushed.did) (made.number ∙ opened.same_number)
            ∙ ap (λ l. listings station.number l) (sym did ∙ sym (ap (λ (c : Caller). own_list c.pass) (ended.of.worker_is
            ∙ ap (λ (h : WorkerHandles). h.caller) taken.handles)));
      }

  -- a station whose worker made all its acts, and which was closed, is finished
  finished_of : IsFinished acts answer after answers station end
  finished_of =
      let work = made.before in
      let done = made.is in
      let device : work.device ≡ station.device = made.device ∙ opened.same_device in
      let none : put_list work.rx ≡ [] = ap (λ (r : RxIn). put_list r) made.rx ∙ opened.nothing_put in
      let unasked : questions work.out.asked ≡ [] = ap questions made.asked ∙ opened.unasked in
      let some_put = ap (λ l. length l) none in
      let few : length (put_list worked.rx) ≤ 4294967295 = (let h = done.few in omega (arith, h, some_put)) in
      let brought : List Packet = arrivals answer after station.device (acts station.device) in
      let brings : arrivals answer after work.device (acts work.device) ≡ brought =
      ap (λ (d : D). arrivals answer after d (acts d)) device in
      let places : capacity_of work.rx ≡ station.capacity = ap (λ (r : RxIn). capacity_of r) made.rx ∙ opened.places in
      let all : length brought ≤ station.capacity → put_list worked.rx ≡ brought = λ room.
      let long = ap (λ l. length l) brings in
      done.put whole (omega (arith, some_put, long, places, room))
      ∙ ap (λ l. l ++ arrivals answer after work.device (acts work.device)) none ∙ brings in
      record {
        same_number = ended.same_number ∙ taken.number ∙ made.same_number ∙ opened.same_number;
        let_go = subst (λ n. WasLet answers n (acts station.device)) opened.same_number
            (subst (λ (d : D). WasLet answers loose.value.number (acts d)) device (done.let_go whole));
        asked = ap questions (ended.same_asked ∙ taken.asked) ∙ done.asked whole
            ∙ ap (λ l. l ++ all_questions after loose.value.number work.device (acts work.device)) unasked
            ∙ ap (λ (d : D). all_questions after loose.value.number d (acts d)) device
            ∙ ap (λ n. all_questions after n station.device (acts station.device)) opened.same_number;
        made = ended.same_device ∙ taken.device ∙ done.made whole ∙ ap (λ (d : D). after_acts after d (acts d)) device;
        sum = ended.sum (let same = ap (λ (r : RxIn). length (put_list r)) taken.rx in omega (arith, few, same));
        put = λ room. (
          ended.put ∙ ap (λ (r : RxIn). capped (length (put_list r))) taken.rx ∙ capped_small _ few ∙ ap (λ l. length l) (all room),
          ended.bytes ∙ ap (λ (r : RxIn). capped (bytes_of (put_list r))) taken.rx ∙ ap (λ l. capped (bytes_of l)) (all room),
        );
        run = run_of;
      }

-- ---- the stations of a run, how each ended, and what polled it

module _ {R D G : Type 0} (acts : D → ℕ) (answer : D → ℕ → Act) (after : D → ℕ → D) (answers : ℕ → ℕ → Bool → Type 0)
    (asked : ℕ → Type 0) (limits : PollLimits) (lists : List (SharedList R)) (pollers : ℕ) where
  -- the worker of this station ended in this state, and so did the instance's thread
  abbrev Works : Station D → InterruptWorker R D G → Type 0
  Works station worked = (loose : DropBomb R (Loose D)) × IsKeptLoose station loose
      × IsWorkedOf acts answer after answers lists pollers loose worked

  abbrev Turns : Station D → OwnThread R G → Type 0
  Turns station thread = (loose : DropBomb R (Loose D)) × IsKeptLoose station loose × HasTurned asked limits lists pollers loose thread

  abbrev IsLeft : Outcome R D G → Type 0
  IsLeft o = IsLeftBy o.worker o.poller o.thread o.loose.value

  course_of : (station : Station D) (o : Outcome R D G) (end : Finished D) → Works station o.worker → Turns station o.thread
      → o.worker.stop ≡ None → o.thread.stop ≡ None → IsLeft o → IsKeptFinishOf o.loose end
      → IsCourse R asked limits lists pollers acts answer after (record { station = station; end = end })
  course_of station o end works turns whole polled taken finish =
      let loose = turns.0.value in
      let TurnsIf : Bool → ℕ → Caller → Type 0 = λ b n after. TurnsIfThread R asked limits lists pollers b n loose.thread after in
      let back = o.loose.value.thread in
      let by_number = subst (λ n. TurnsIf loose.has_thread n back) turns.1.same_number (turns.2 back taken.thread_is polled) in
      let by_thread = subst (λ b. TurnsIf b station.number back) turns.1.thread by_number in
      record {
        run = run_of works.1 works.2 whole taken finish;
        pushes = pushes_of works.1 works.2 whole taken finish;
        thread = loose.thread;
        unused = turns.1.own;
        turns = subst (λ c. TurnsIf station.thread station.number c) (sym finish.of.thread_is) by_thread;
      }

  -- the courses of these stations (what happened to each), and how they ended
  record Courses (stations : List (Station D)) (outcomes : List (Outcome R D G)) (ends : List (Finished D)) : Type 0 where
    pub all : List (Course D)
    pub stations_are : map (λ c. c.station) all ≡ stations
    pub ends_are : map (λ c. c.end) all ≡ ends
    pub beside : AllZip (λ c o. (o.poller.value.caller ≡ Some c.end.closed.poller.value)
        × (o.worker.handler.number ≡ c.station.number)) all outcomes
    pub each : AllByRecursion (IsCourse R asked limits lists pollers acts answer after) all
    pub finished : AllZip (IsFinished acts answer after answers) stations ends

  courses_of : (stations : List (Station D)) (outcomes : List (Outcome R D G)) (ends : List (Finished D))
      → AllZip Works stations (map (λ o. o.worker) outcomes) → AllZip Turns stations (map (λ o. o.thread) outcomes)
      → AllByRecursion (λ (w : InterruptWorker R D G). w.stop ≡ None) (map (λ o. o.worker) outcomes)
      → AllByRecursion (λ (t : OwnThread R G). t.stop ≡ None) (map (λ o. o.thread) outcomes)
      → AllByRecursion IsLeft outcomes → AllZip IsKeptFinishOf (map (λ o. o.loose) outcomes) ends → Courses stations outcomes ends
  courses_of [] [] [] works turns whole polled taken finish =
      record { all = []; stations_are = refl; ends_are = refl; beside = tt; each = tt; finished = tt }
  courses_of [] [] (e ∷ es) works turns whole polled taken finish = absurd finish
  courses_of [] (o ∷ os) es works turns whole polled taken finish = absurd works
  courses_of (s ∷ ss) [] es works turns whole polled taken finish = absurd works
  courses_of (s ∷ ss) (o ∷ os) [] works turns whole polled taken finish = absurd finish
  courses_of (s ∷ ss) (o ∷ os) (e ∷ es) works turns whole polled taken finish =
      let more = courses_of ss os es works.1 turns.1 whole.1 polled.1 taken.1 finish.1 in
      record {
        all = record { station = s; end = e } ∷ more.all;
        stations_are = ap (λ l. s ∷ l) more.stations_are;
        ends_are = ap (λ l. e ∷ l) more.ends_are;
        beside = (
          (taken.0.poller_is ∙ ap (λ c. Some c) (sym finish.0.of.poller_is), works.0.2.same_number ∙ works.0.1.same_number),
          more.beside,
        );
        each = (course_of s o e works.0 turns.0 whole.0 polled.0 taken.0 finish.0, more.each);
        finished = (finished_of works.0.1 works.0.2 whole.0 taken.0 finish.0, more.finished);
      }

-- a property of pairs, if the second list is mapped afterwards
zip_to_mapped : {A B C : Type 0} (f : B → C) (Q : A → C → Type 0) (xs : List A) (ys : List B) → AllZip (λ x y. Q x (f y)) xs ys
    → AllZip Q xs (map f ys)
zip_to_mapped f Q [] [] h = tt
zip_to_mapped f Q (x ∷ xs) (y ∷ ys) h = (h.0, zip_to_mapped f Q xs ys h.1)
zip_to_mapped f Q xs ys h = absurd h

-- a property of pairs, if the first list was mapped before
zip_mapped : {A B C : Type 0} (f : A → B) (Q : B → C → Type 0) (xs : List A) (ys : List C) → AllZip Q (map f xs) ys
    → AllZip (λ x y. Q (f x) y) xs ys
zip_mapped f Q [] [] h = tt
zip_mapped f Q (x ∷ xs) (y ∷ ys) h = (h.0, zip_mapped f Q xs ys h.1)
zip_mapped f Q xs ys h = absurd h

fresh_of : {R D : Type 0} (station : Station D) (seat : DropBomb R PollHandle)
    → (loose : DropBomb R (Loose D)) × IsKeptLoose station loose × IsKeptSeatFor loose seat → IsFreshSeat station seat
fresh_of station seat (loose, opened, for) =
    record {
      number = for.number ∙ opened.same_number;
      thread = for.thread ∙ opened.thread;
      caller = loose.value.poller;
      there = for.caller_is;
      unused = opened.poller;
    }

-- what the threads of a run returned, if none failed
module _ {R D G : Type 0} (acts : D → ℕ) (answer : D → ℕ → Act) (after : D → ℕ → D) (answers : G → ℕ → ℕ → Bool → Type 0)
    (context : RunContext R G) (pollers : ℕ) (stations : List (Station D)) (loose left : List (DropBomb R (Loose D)))
    (opened : AllZip IsKeptLoose stations loose) (ran : HaveRun acts answer after answers context pollers loose left)
    (ends : List (Finished D)) (finish : AllZip IsKeptFinishOf left ends) where
  abbrev asked : ℕ → Type 0
  asked = IsAsked answers context.gate

  run_courses : Courses acts answer after (answers context.gate) asked context.limits ran.lists pollers stations ran.left_by.all ends
  run_courses =
      let by = ran.left_by in
      courses_of acts answer after (answers context.gate) asked context.limits ran.lists pollers stations by.all ends
      (subst (λ l. AllZip (Works acts answer after (answers context.gate) asked context.limits ran.lists pollers) stations l)
      (sym by.workers_are)
      (zip_both _ _ _ _ _ opened ran.made))
      (subst (λ l. AllZip (Turns acts answer after (answers context.gate) asked context.limits ran.lists pollers) stations l)
      (sym by.threads_are)
      (zip_both _ _ _ _ _ opened ran.turned))
      (subst (λ l. AllByRecursion (λ (w : InterruptWorker R D G). w.stop ≡ None) l) (sym by.workers_are) (recursion_from_All _ _ ran.whole))
      (subst (λ l. AllByRecursion (λ (t : OwnThread R G). t.stop ≡ None) l) (sym by.threads_are) (recursion_from_All _ _ ran.whole_turns))
      by.each (subst (λ l. AllZip IsKeptFinishOf l ends) (sym by.loose_are) finish)

  pub all_finished : AllZip (IsFinished acts answer after (answers context.gate)) stations ends
  all_finished = run_courses.finished

  -- the stations that a poller polled are its own ones
  crew_of : (number : ℕ) (p : OwnPoller R G) → HasPolled asked context.limits ran.lists pollers loose number p
      → map (λ o. o.poller) (filter (λ o. is_own number pollers o.worker.handler.number) ran.left_by.all)
      ≡ vec_items p.served.bench.seats → p.stop ≡ None
      → TakesTurns R asked context.limits ran.lists pollers number (filter (λ c. is_dealt number pollers c.station) run_courses.all)
  crew_of number p has back did = record {
    list = has.list;
    there = has.there;
    ends = has.ends;
    new = has.new;
    before = has.before;
    after = vec_items p.served.bench.seats;
    from = fresh;
    turns = has.turns did;
    to = subst (λ l. AllZip (λ (c : Course D) (seat : DropBomb R PollHandle). seat.value.caller ≡ Some c.end.closed.poller.value) own l)
        back
        (zip_to_mapped (λ o. o.poller) _ own _ (zip_same _ _ _ _ (λ c o h. h.0) beside));
  }
    where
      all : List (Course D)
      all = run_courses.all

      own : List (Course D)
      own = filter (λ c. is_dealt number pollers c.station) all

      beside : AllZip (λ (c : Course D) (o : Outcome R D G). (o.poller.value.caller ≡ Some c.end.closed.poller.value)
          × (o.worker.handler.number ≡ c.station.number)) own (filter (λ o. is_own number pollers o.worker.handler.number) ran.left_by.all)
      beside = zip_filtered _ _ _ _ _ (λ c o h. ap (λ n. is_own number pollers n) (sym h.1)) run_courses.beside

      opens : AllZip (λ (c : Course D) l. IsKeptLoose c.station l) all loose
      opens = zip_mapped (λ c. c.station) IsKeptLoose all loose
          (subst (λ l. AllZip IsKeptLoose l loose) (sym run_courses.stations_are) opened)

      fresh : AllZip (λ (c : Course D) seat. IsFreshSeat c.station seat) own has.before
      fresh = zip_same _ _ _ _ (λ c b h. fresh_of c.station b h) (zip_both _ _ _ _ _
          (zip_filtered _ _ _ _ _ (λ c l h. ap (λ n. is_own number pollers n) (sym h.same_number)) opens) has.from)

  pub all_polled : ArePolled R asked context.limits acts answer after pollers stations ends
  all_polled = record {
    lists = ran.lists;
    courses = run_courses.all;
    stations_are = run_courses.stations_are;
    ends_are = run_courses.ends_are;
    each = run_courses.each;
    crews = λ some number below.
        let by = ran.left_by in
        let polled = ran.polled in
        let Polled : ℕ → OwnPoller R G → Type 0 = λ k p. IsAt polled k p × HasPolled asked context.limits ran.lists pollers loose k p
        × (p.stop ≡ None) in
        let low : number < length polled = (let same = ran.same in omega (arith, same, below)) in
        let t = at_place Polled polled (λ k d low. (
          (low, sym (get_or_default polled k d (get_or polled k d) low)),
          ran.ran k d low,
          ran.whole_polls k d low,
        )) number low in
        let by_poller : map (λ o. o.poller) (filter (λ o. is_own number (length polled) o.worker.handler.number) by.all)
        ≡ vec_items (get_or polled number t.0).served.bench.seats = by.callers number t.0 low in
        crew_of number t.0 t.1.1
        (subst (λ n. map (λ o. o.poller) (filter (λ o. is_own number n o.worker.handler.number) by.all) ≡ vec_items t.0.served.bench.seats)
        ran.same (by_poller ∙ ap (λ (p : OwnPoller R G). vec_items p.served.bench.seats) t.1.0.1)) t.1.2;
  }

-- without stations nothing is polled
pub none_polled : {D : Type 0} (R : Type 0) (asked : ℕ → Type 0) (limits : PollLimits) (acts : D → ℕ) (answer : D → ℕ → Act)
    (after : D → ℕ → D)
    (pollers : ℕ) → ArePolled R asked limits acts answer after pollers [] []
none_polled R asked limits acts answer after pollers =
    record { lists = []; courses = []; stations_are = refl; ends_are = refl; each = tt; crews = λ some number below. absurd (some refl) }

-- the ends that were made together with the pollers' lists are ends of these lists
pub ends_of_lists : {R G : Type 0} (pollers : List (OwnPoller R G)) (ends : List (Vec (ListIn R)))
    → AllZip (λ p e. All (IsNewEnd p.served.list) (vec_items e)) pollers ends → AreEndsOf (map (λ p. p.served.list) pollers) ends
ends_of_lists [] [] own k d low = absurd (omega (arith, low))
ends_of_lists (p ∷ ps) (e ∷ es) own zero d low = λ n x within. (p.served.list, (omega arith, refl), own.0 n x within)
ends_of_lists (p ∷ ps) (e ∷ es) own (suc k) d low = λ n x within.
    let h = ends_of_lists ps es own.1 k d (omega (arith, low)) n x within in
    (h.0, (let m = h.1.0 in omega (arith, m), h.1.1), h.2)
ends_of_lists ps es own k d low = absurd own

-- ---- what the threads returned of the parts that they got

module _ {R D G : Type 0} where
  -- the worker that a thread returned belongs to the instance that stayed with the caller
  pub record IsBackAt (placed : DropBomb R Placed) (done : InterruptWorker R D G) : Type 0 where
    pub number : done.handler.number ≡ placed.value.number
    pub napi : done.handler.napi.now ≡ placed.value.napi
    pub handles : AreAtRest placed.value.napi done.handles.value
    pub controller : pass_number (pass_of done.handles.value.control) ≡ controller_number
    pub ring : IsInputOf done.rx placed.value.napi
    pub home : IsHome placed.value

  part_of : (placed : DropBomb R Placed) (o : Outcome R D G) → IsBackAt placed o.worker
      → IsLeftBy o.worker o.poller o.thread o.loose.value → IsKeptPartOf o.loose placed
  part_of placed o back taken = record {
    number = sym (taken.number ∙ back.number);
    handles = subst (λ (h : WorkerHandles). AreAtRest placed.value.napi h) (sym taken.handles) back.handles;
    controller = ap (λ (h : WorkerHandles). pass_number (pass_of h.control)) taken.handles ∙ back.controller;
    poller = subst (λ (n : Napi). IsSeatOf n o.loose.value.poller.pass) back.napi taken.poller_of;
    thread = subst (λ (n : Napi). IsSeatOf n o.loose.value.thread.pass) back.napi taken.thread_of;
    ring = subst (λ (r : RxIn). IsInputOf r placed.value.napi) (sym taken.rx) back.ring;
    home = back.home;
  }

  parts_of : (placed : List (DropBomb R Placed)) (all : List (Outcome R D G)) → AllZip IsBackAt placed (map (λ o. o.worker) all)
      → AllByRecursion (λ (o : Outcome R D G). IsLeftBy o.worker o.poller o.thread o.loose.value) all
      → AllZip IsKeptPartOf (map (λ o. o.loose) all) placed
  parts_of [] [] back taken = tt
  parts_of [] (o ∷ os) back taken = absurd back
  parts_of (p ∷ ps) [] back taken = absurd back
  parts_of (p ∷ ps) (o ∷ os) back taken = (part_of p o back.0 taken.0, parts_of ps os back.1 taken.1)

  pub all_parts : (placed : List (DropBomb R Placed)) (workers : List (InterruptWorker R D G)) (pollers : List (OwnPoller R G))
      (threads : List (OwnThread R G)) (left : List (DropBomb R (Loose D))) → AllZip IsBackAt placed workers
      → AreLeftBy workers pollers threads left → AllZip IsKeptPartOf left placed
  all_parts placed workers pollers threads left back by =
      subst (λ l. AllZip IsKeptPartOf l placed) by.loose_are
      (parts_of placed by.all (subst (λ l. AllZip IsBackAt placed l) (sym by.workers_are) back) by.each)

  seat_with : (placed : DropBomb R Placed) (done : InterruptWorker R D G) (seat after : DropBomb R PollHandle) → IsBackAt placed done
      → IsSeatAt placed seat → IsSameSeat seat.value after.value → IsSeatWith done after
  seat_with placed done seat after back at same = record {
    napi = ap (λ b. b.now) same.napi ∙ at.napi ∙ sym back.napi;
    caller = same.caller at.caller;
  }

module _ {R D G : Type 0} (acts : D → ℕ) (answer : D → ℕ → Act) (after : D → ℕ → D) (may_shut : Type 0)
    (answers : G → ℕ → ℕ → Bool → Type 0) (context : RunContext R G) where
  back_at : (placed : DropBomb R Placed) (loose : DropBomb R (Loose D)) (job done : InterruptWorker R D G) → IsKeptSideOf loose placed
      → IsKeptJobOf context loose job → IsJobAt placed job → IsWorked acts answer after may_shut answers job done → IsBackAt placed done
  back_at placed loose job done side given at made = record {
    number = ap (λ (h : InterruptHandler R). h.number) made.same_handler ∙ given.same_number ∙ sym side.part.number;
    napi = ap (λ (h : InterruptHandler R). h.napi.now) made.same_handler ∙ at;
    handles = subst (λ (n : Napi). AreAtRest n done.handles.value) at made.is.handles;
    controller = made.is.same.1 ∙ ap (λ (h : WorkerHandles). pass_number (pass_of h.control)) given.same_handles ∙ side.part.controller;
    ring = same_ring loose.value.rx job.rx done.rx placed.value.napi given.same_rx made.is.ring side.part.ring;
    home = side.part.home;
  }

  pub all_back_at : (placed : List (DropBomb R Placed)) (loose : List (DropBomb R (Loose D))) (jobs done : List (InterruptWorker R D G))
      → AllZip IsKeptSideOf loose placed → AllZip (IsKeptJobOf context) loose jobs → AllZip IsJobAt placed jobs
      → AllZip (IsWorked acts answer after may_shut answers) jobs done → AllZip IsBackAt placed done
  all_back_at placed loose jobs done sides given at made =
      let a = zip_both _ _ _ _ _ (zip_flip _ _ _ sides) given in
      let b = zip_both _ _ _ _ _ (zip_and _ _ _ _ a at) made in
      zip_same _ _ _ _ (λ p d h. back_at p h.1.0.0 h.0 d h.1.0.1 h.1.0.2 h.1.1 h.2) b

  module _ (lists : List (SharedList R)) (wakers : List Waker) where
    worked_of : (loose : DropBomb R (Loose D)) (job done : InterruptWorker R D G) → IsKeptJobOf context loose job
        → IsWiredJob lists wakers job
        → IsWorked acts answer after may_shut answers job done
        → IsWorkedOf acts answer after (answers context.gate) lists (length wakers) loose done
    worked_of loose job done given wired made = record {
      napi = job.handler.napi.now;
      before = job;
      number = given.same_number;
      device = given.same_device;
      rx = given.same_rx;
      handles = given.same_handles;
      asked = given.same_asked;
      list = subst (λ n. IsEndOf lists (poller_by (length wakers) n) job.out.list) given.same_number wired.list;
      same_number = ap (λ (h : InterruptHandler R). h.number) made.same_handler ∙ given.same_number;
      is = subst (λ (s : RunContext R G). IsDone (answers s.gate) loose.value.has_thread loose.value.number) given.has
          (subst (λ b. IsDone (answers job.context.now.gate) b loose.value.number) given.thread
          (subst (λ n. IsDone (answers job.context.now.gate) (is_some job.handler.thread) n) given.same_number made.is));
    }
      where
        IsDone : (ℕ → ℕ → Bool → Type 0) → Bool → ℕ → Type 0
        IsDone asks thread number = IsDoneBy acts answer after asks job.handler.napi.now thread number job done

    pub all_worked : (loose : List (DropBomb R (Loose D))) (jobs done : List (InterruptWorker R D G))
        → AllZip (IsKeptJobOf context) loose jobs
        → AllByRecursion (IsWiredJob lists wakers) jobs → AllZip (IsWorked acts answer after may_shut answers) jobs done
        → AllZip (IsWorkedOf acts answer after (answers context.gate) lists (length wakers)) loose done
    all_worked loose jobs done given wired made =
        zip_same _ _ _ _ (λ l d h. worked_of l h.0 d h.1.0 h.1.1 h.2) (zip_both _ _ _ _ _ (zip_right _ _ _ _ given wired) made)

-- ---- the pollers

module _ {R D G : Type 0} (may_shut : Type 0) (answers : G → ℕ → ℕ → Bool → Type 0) where
  thread_with : (placed : DropBomb R Placed) (done : InterruptWorker R D G) (before after : OwnThread R G) → IsBackAt placed done
      → IsThreadAt placed before → IsPolled has_no_thread TurnsAlone may_shut answers before after → IsThreadWith done after
  thread_with placed done before after back at p = seat_with placed done before.served.seat after.served.seat back at.seat
      (served_alone before.waker.now before.served after.served p.kept)

  pub all_threads_with : (placed : List (DropBomb R Placed)) (workers : List (InterruptWorker R D G)) (sides threads : List (OwnThread R G))
      → AllZip IsBackAt placed workers → AllZip IsThreadAt placed sides
      → AllZip (IsPolled has_no_thread TurnsAlone may_shut answers) sides threads → AllZip IsThreadWith workers threads
  all_threads_with placed workers sides threads back at did =
      zip_same _ _ _ _ (λ w t h. thread_with h.1.0 w h.0 t h.1.1 h.1.2 h.2)
      (zip_both _ _ _ _ _ (zip_both _ _ _ _ _ (zip_flip _ _ _ back) at) did)

module _ {R D G : Type 0} (may_shut : Type 0) (answers : G → ℕ → ℕ → Bool → Type 0) {context : RunContext R G} {count : ℕ}
    {lists : List (SharedList R)} {wakers : List Waker} (placed : List (DropBomb R Placed)) (loose : List (DropBomb R (Loose D)))
    (workers : List (InterruptWorker R D G)) (sat : List (DropBomb R PollHandle)) (pollers polled : List (OwnPoller R G))
    (back : AllZip IsBackAt placed workers) (at : AllZip IsSeatAt placed sat) (for : AllZip IsKeptSeatFor loose sat)
    (have : ArePollers context wakers count sat pollers)
    (did : AllZip (IsPolled (λ _. false) TurnsByRun may_shut answers) pollers polled)
    (are : map (λ p. p.served.list) pollers ≡ lists) where
  record CameBack (k : ℕ) (poller : OwnPoller R G) : Type 0 where
    pub seats : AreSeatsAt (length wakers) workers k poller
    pub has : HasPolled (IsAsked answers context.gate) context.limits lists (length wakers) loose k poller

  came_back : (k : ℕ) (after before : OwnPoller R G) → IsAt pollers k before
      → IsPoller context wakers count (own_seats (length wakers) k sat) k before
      → IsPolled (λ _. false) TurnsByRun may_shut answers before after → CameBack k after
  came_back k after before at_k p did =
      let by : ℕ → Bool = λ m. is_own k (length wakers) m in
      let own : List (DropBomb R PollHandle) = own_seats (length wakers) k sat in
      let ends = vec_items after.served.bench.seats in
      let same : AreSameSeats own ends =
      subst (λ l. AreSameSeats l ends) p.seats_are (served_keeps before.waker.now before.served after.served did.kept) in
      let Beside : InterruptWorker R D G → DropBomb R PollHandle → Type 0 = λ w s. (place : DropBomb R Placed) × IsBackAt place w
      × IsSeatAt place s in
      let both : AllZip Beside workers sat = zip_both _ _ _ _ _ (zip_flip _ _ _ back) at in
      let places : AllZip Beside (filter (λ (w : InterruptWorker R D G). by w.handler.number) workers) own =
      zip_filtered Beside _ _ workers sat (λ w s h. ap by (h.1.number ∙ sym h.2.number)) both in
      record {
        seats = zip_same _ _ _ _ (λ w s h. seat_with h.1.0 w h.0 s h.1.1 h.1.2 h.2) (zip_both _ _ _ _ _ places same);
        has = record {
          before = own;
          list = before.served.list;
          there = subst (λ l. IsAt l k before.served.list) are (at_mapped (λ p. p.served.list) pollers k before at_k);
          ends = p.new.0;
          new = p.new.1;
          from = zip_filtered IsKeptSeatFor _ _ loose sat (λ l s h. ap by (sym h.number)) for;
          turns = λ whole. record {
            first = before.served;
            last = after.served;
            started = subst (λ m. IsAsked answers context.gate m) p.named
                (subst (λ (s : RunContext R G). IsAsked answers s.gate before.name) p.has (did.started whole refl));
            paced = p.paced;
            over = refl;
            from = p.seats_are;
            own = before.waker.now;
            turns = did.turned whole refl;
            to = refl;
          };
        };
      }

  all_came : (k : ℕ) (d : OwnPoller R G) → k < length polled → CameBack k (get_or polled k d)
  all_came k d low =
      let Mine : ℕ → OwnPoller R G → Type 0 =
      λ k p. IsAt pollers k p × IsPoller context wakers count (own_seats (length wakers) k sat) k p in
      let h = each_zip Mine (IsPolled (λ _. false) TurnsByRun may_shut answers) pollers polled did
      (λ k d low. ((low, sym (get_or_default pollers k d (get_or pollers k d) low)), have.each k d low)) k d low in
      came_back k (get_or polled k d) h.0 h.1.0 h.1.1 h.2

  -- each poller was returned with its handles on its own instances
  pub all_seats_at : EachAt (AreSeatsAt (length wakers) workers) polled
  all_seats_at k d low = (all_came k d low).seats

  -- each poller polled by these handles
  pub all_have_polled : EachAt (HasPolled (IsAsked answers context.gate) context.limits lists (length wakers) loose) polled
  all_have_polled k d low = (all_came k d low).has

-- ---- the threads of the instances took their turns

module _ {R D G : Type 0} (may_shut : Type 0) (answers : G → ℕ → ℕ → Bool → Type 0) (context : RunContext R G)
    (lists : List (SharedList R)) (wakers : List Waker) where
  turned_by : (loose : DropBomb R (Loose D)) (side thread : OwnThread R G) (has : Bool) → is_some side.served.seat.value.thread ≡ has
      → IsKeptThreadFor context loose side → IsWiredSide lists wakers side
      → IsPolled has_no_thread TurnsAlone may_shut answers side thread → thread.stop ≡ None
      → (after : Caller) → thread.served.seat.value.caller ≡ Some after
      → TurnsIfThread R (IsAsked answers context.gate) context.limits lists
      (length wakers) has loose.value.number loose.value.thread after
  turned_by loose side thread false has for wired p whole after is =
      same_Some _ _ (sym is ∙ ap (λ (s : ThreadPoller R). s.seat.value.caller) (p.none (ap (λ b. not b) has)) ∙ for.seat.caller_is)
  turned_by loose side thread true has for wired p whole after is =
      let busy = ap (λ b. not b) has in (
        side.served.list,
        subst (λ n. IsEndOf lists (poller_by (length wakers) n) side.served.list) for.seat.number wired.list,
        record {
          first = side.served;
          last = thread.served;
          started = subst (λ m. IsAsked answers context.gate m) for.named
              (subst (λ (s : RunContext R G). IsAsked answers s.gate side.name) for.has (p.started whole busy));
          paced = for.paced;
          at = for.seat.number;
          waker = has;
          over = refl;
          from = for.seat.caller_is;
          own = side.waker.now;
          turns = p.turned whole busy;
          to = is;
        },
      )

  pub all_turned : (loose : List (DropBomb R (Loose D))) (sides threads : List (OwnThread R G))
      → AllZip (IsKeptThreadFor context) loose sides
      → AllByRecursion (IsWiredSide lists wakers) sides → AllZip (IsPolled has_no_thread TurnsAlone may_shut answers) sides threads
      → AllZip (HasTurned (IsAsked answers context.gate) context.limits lists (length wakers)) loose threads
  all_turned loose sides threads for wired did =
      zip_same _ _ _ _ (λ l t h after is whole.
      subst (λ b. TurnsIfThread R (IsAsked answers context.gate) context.limits lists
      (length wakers) b l.value.number l.value.thread after)
      h.1.0.seat.thread (turned_by l h.0 t _ refl h.1.0 h.1.1 h.2 whole after is))
      (zip_both _ _ _ _ _ (zip_right _ _ _ _ for wired) did)
