pub mod MapLemmas
pub mod RoomLemmas
pub mod PlaceLemmas
