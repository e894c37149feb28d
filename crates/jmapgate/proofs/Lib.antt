mod Clients
mod Devices
