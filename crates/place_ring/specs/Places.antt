-- A ring of places. Packets are numbered from 0 on in the order in which they are published, and packet n is in place n % capacity of
-- the caller's array. A place belongs to one end at a time, or to none: the input end owns those that it claimed, the output end those
-- that it peeked at (AF_XDP's rings: `Documentation/networking/af_xdp.rst` of Linux 6.6).
use Rattle.std.specs.Prelude.{◌≡◌, ℕ, ◌+◌, ◌-◌, ◌%◌, ◌≤◌, length, min}
use Rattle.rtrb.specs.Ring.{sent, received, known_items, known_free, producer_capacity, consumer_capacity, IsPair}
use Rattle.rtrb.specs.Ring.{SameProducer, SameConsumer}
use Rattle.place_ring.specs.Bounds.{most_at_once}
use Rattle.place_ring.specs.declared.ends.{PlaceIn.PlaceIn, PlaceOut.PlaceOut, Places.Places}

-- the capacity of the ring, in places
abbrev pub input_capacity : PlaceIn → ℕ
input_capacity input = producer_capacity input.producer

abbrev pub output_capacity : PlaceOut → ℕ
output_capacity output = consumer_capacity output.consumer

-- how many packets were published
abbrev pub published_of : PlaceIn → ℕ
published_of input = length (sent input.producer)

-- how many places the input end owns: those of the packets that are published next
abbrev pub claimed_of : PlaceIn → ℕ
claimed_of input = input.claimed

-- how many free places the input end knows of, with those that it owns
abbrev pub free_places_of : PlaceIn → ℕ
free_places_of input = known_free input.producer

-- how many packets were released
abbrev pub released_of : PlaceOut → ℕ
released_of output = length (received output.consumer)

-- how many places the output end owns: those of the packets that are released next
abbrev pub peeked_of : PlaceOut → ℕ
peeked_of output = output.peeked

-- how many packets the output end knows of, with those whose places it owns
abbrev pub known_of : PlaceOut → ℕ
known_of output = length (known_items output.consumer)

-- the two ends of one ring
abbrev pub IsPlacePair : PlaceIn → PlaceOut → Type 0
IsPlacePair input output = IsPair input.producer output.consumer

-- the same end of the same ring, at two times
abbrev pub SamePlaceIn : PlaceIn → PlaceIn → Type 0
SamePlaceIn before after = SameProducer before.producer after.producer

abbrev pub SamePlaceOut : PlaceOut → PlaceOut → Type 0
SamePlaceOut before after = SameConsumer before.consumer after.consumer

-- a claim publishes packets, and gives up to `want` places for the next ones: side by side, none past the last place of the array
pub record Claims (publish want : ℕ) (before after : PlaceIn) (places : Places) : Type 0 where
  pub ring : SamePlaceIn before after
  pub published : published_of after ≡ published_of before + publish
  pub first : places.first ≡ published_of after % input_capacity after
  pub inside : places.first + places.count ≤ input_capacity after
  pub claimed : claimed_of after ≡ places.count
  pub few : places.count ≤ want
  pub free : free_places_of before ≤ free_places_of after + publish
  -- those that the end knew to be free, up to `want`, the most at once, and the last place of the array
  pub least : min (min want most_at_once) (min (input_capacity after - places.first) (free_places_of before - publish)) ≤ places.count

-- a peek releases packets, and gives up to `want` places of the next ones, side by side
pub record Peeks (release want : ℕ) (before after : PlaceOut) (places : Places) : Type 0 where
  pub ring : SamePlaceOut before after
  pub released : released_of after ≡ released_of before + release
  pub first : places.first ≡ released_of after % output_capacity after
  pub inside : places.first + places.count ≤ output_capacity after
  pub peeked : peeked_of after ≡ places.count
  pub few : places.count ≤ want
  pub known : known_of before ≤ known_of after + release
  -- those of the packets that the end knew of, up to `want`, the most at once, and the last place of the array
  pub least : min (min want most_at_once) (min (output_capacity after - places.first) (known_of before - release)) ≤ places.count

-- what each end owns is apart from what the other one owns: only published packets are peeked, and no place of an unreleased packet is
-- claimed
pub record OwnApart (input : PlaceIn) (output : PlaceOut) : Type 0 where
  pub published : released_of output + peeked_of output ≤ published_of input
  pub released : published_of input + claimed_of input ≤ released_of output + input_capacity input
