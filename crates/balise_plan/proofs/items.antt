-- Lists of items under tags: the place of a tag, and what a change of one item leaves.
pub mod Inserted
pub mod KeyPlaces
pub mod OneChanged
pub mod Places
pub mod TagPlaces
pub mod Tagged
