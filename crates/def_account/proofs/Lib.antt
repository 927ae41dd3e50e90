mod Creations
